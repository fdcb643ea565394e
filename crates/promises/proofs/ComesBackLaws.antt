-- "Cut by our sender and joined by our receiver, a message of 0 to 16,384 octets comes back the same." Assumes nothing.
use Rattle.std.specs.Prelude.{ℕ, ◌+◌, ◌≤◌, ◌≡◌, refl, true, Result}
use Rattle.std.proofs.Common.{sym, subst, ◌∙◌, ⊎_elim, inl, inr, arith}
use Rattle.std.proofs.Math.Path.{ap}
use mathlib.Core.List.Memᴰ
use mathlib.Core.List.{List, [], ◌∷◌, map, Memᴰ}
use Rattle.std.proofs.Math.ListN.{length}
use Rattle.octets.specs.Run.{run, laid}
use Rattle.octets.proofs.RunLaws.{run_laid}
use Rattle.header.specs.declared.Given.{Given}
use Rattle.refusal.specs.declared.Refusal.{Refusal}
use Rattle.cut.specs.Cutter.{Words, cuts, cutter_buffer, cutter_answer, pdu, cutter_told}
use Rattle.cut.proofs.CutterLaws.{Within, length_pdu, within_short}
use Rattle.cut.proofs.ReadLaws.{cuts_within, cuts_room}
use Rattle.rules.specs.pasts.Past.{Event, message, Answers}
use Rattle.promised.proofs.CutPiecesLaws.{cuts_piece}
use Rattle.promised.specs.Delivery.{sent_by, Sent, PieceOf, Came, Between, OnlyPieces}
use Rattle.promised.specs.Log.{told_by, Exchange, exchange, logged}
use Rattle.promised.proofs.PieceLaws.{Cuttable, piece_number}
use Rattle.cut.proofs.PrintedLaws.{limits_cut}
use Rattle.promises.specs.Demands.{Cut, ComesBack}
use Rattle.promises.proofs.DemandsLaws.{delivers}

-- ---- what the cutter wrote is a piece

module _ (g : Given) (octets : List ℕ) (u c : ℕ) (packet : List ℕ) (cut : Cut g octets u c packet) where
  abbrev room : ℕ
  room = length cut.buffer

  it_cuts : cuts g octets u c room ≡ true
  it_cuts =
      let l = cut.limits in
      let within : Within (length octets) u c = record { big = l.octets; low = l.unit.0; high = l.unit.1; first = l.piece.0; last = l.piece.1 } in
      limits_cut g octets u c room l (omega (arith, cut.room, within_short (length octets) u c within))

  pub packet_is : packet ≡ pdu g octets u c
  unfolding cutter_answer cutter_buffer run
  packet_is =
      let within = cuts_within g octets u c room it_cuts in
      let long = length_pdu g octets u c within in
      let fits : 0 + length (pdu g octets u c) ≤ room = omega (arith, long, cuts_room g octets u c room it_cuts) in
      let told : (cutter_told cut.answer).length ≡ length (pdu g octets u c) = ap (λ (x : Result ℕ Refusal). (cutter_told x).length) cut.called.answered ∙ rw it_cuts (sym long) in
      let left_is : cut.left ≡ laid cut.buffer 0 (pdu g octets u c) = cut.called.written ∙ rw it_cuts in
      cut.begins ∙ rw (told, left_is) (run_laid cut.buffer 0 (pdu g octets u c) fits)

  pub cut_piece : Words g → PieceOf (sent_by g octets u) c packet
  cut_piece words = subst (PieceOf (sent_by g octets u) c) (sym packet_is) (cuts_piece g octets u c room it_cuts words)

-- ---- its pieces arrive

module _ (m : Sent) (i : ℕ) (packets : ℕ → List ℕ) where
  abbrev arrive : List ℕ → List Event
  arrive = map (λ c. message (packets c))

  only_its : (log : List Exchange) (order : List ℕ) → ((c : ℕ) → Memᴰ c order → PieceOf m c (packets c)) → (rs : Answers (arrive order))
      → Between (OnlyPieces m) m i log (arrive order) rs
  only_its log [] are rs = tt
  only_its log (c ∷ order) are rs = (
    λ mine. (c, are c (Memᴰ.head refl)),
    only_its (exchange (message (packets c)) (told_by (message (packets c)) rs.0) ∷ log) order (λ d there. are d (Memᴰ.tail there)) rs.1,
  )

  its_came : (order : List ℕ) → ((c : ℕ) → Memᴰ c order → PieceOf m c (packets c)) → (c : ℕ) → Memᴰ c order → Came m c (arrive order)
  its_came [] are c there = absurd (Memᴰ.not-nil there)
  its_came (d ∷ order) are c there = ⊎_elim
      (λ (e : c ≡ d). inl (subst (λ (x : ℕ). PieceOf m x (packets d)) (sym e) (are d (Memᴰ.head refl))))
      (λ (rest : Memᴰ c order). inr (its_came order (λ x more. are x (Memᴰ.tail more)) c rest))
      (Memᴰ.cases_cons there)

  came_its : Cuttable m → (order : List ℕ) → ((c : ℕ) → Memᴰ c order → PieceOf m c (packets c)) → (c : ℕ) → Came m c (arrive order) → Memᴰ c order
  came_its k [] are c came = absurd came
  came_its k (d ∷ order) are c came = ⊎_elim
      (λ (is : PieceOf m c (packets d)). Memᴰ.head (sym (piece_number m k c (packets d) is) ∙ piece_number m k d (packets d) (are d (Memᴰ.head refl))))
      (λ rest. Memᴰ.tail (came_its k order (λ x more. are x (Memᴰ.tail more)) c rest))
      came

pub comes_back : ComesBack
comes_back q r w meets past ps v course g words octets u i may packets cut order last any rs x since a y meets-last =
    let m = sent_by g octets u in
    let k : Cuttable m = record { most = may.length_within; wide = may.unit_within } in
    let are : (c : ℕ) → Memᴰ c order → PieceOf m c (packets c) = λ c there. cut_piece g octets u c (packets c) (cut c (any.pieces c there)) words in
    let last_is = cut_piece g octets u last (packets last) (cut last any.is_piece) words in
    let between = only_its m i packets (logged [] past ps) order are rs in
    let arrives = delivers q r w meets past ps v course m i may (arrive m i packets order) rs x since between last (packets last) last_is a y meets-last in
    arrives.0.delivered (λ came. any.missing (came_its m i packets k order are last came), λ d numbered ne. its_came m i packets order are d (any.others d numbered ne))
