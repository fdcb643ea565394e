-- What 02 asks of packets to groups, after every past. Assumes nothing.
use Rattle.std.specs.Prelude.{ℕ, ◌+◌, ◌*◌, ◌≤◌, ◌≡◌, ◌≢◌, Bool, true, not, ◌&&◌, List, [], ◌∷◌, length, drop, get_or, replicate}
use Rattle.std.proofs.Math.Path.{refl, ap}
use Rattle.std.proofs.Common.{sym, subst, ◌∙◌, inl, inr, arith, length-append, drop_at}
use Rattle.std.proofs.Math.Logic.{⊎_elim}
use Rattle.std.proofs.Math.Bool.{false, and-false}
use Rattle.std.proofs.Math.Dec.{eqb}
use Rattle.std.proofs.lemmas.List.{length-replicate, get_or-replicate}
use borrow.Author.Tests.{le-leb, lt-leb, eq-eqb}
use Rattle.octets.specs.Split.{eq_or_ne, never_both}
use Rattle.header.specs.declared.Given.{Given}
use Rattle.header.specs.declared.Head.{Head}
use Rattle.header.specs.Head.{head_of, header, is_fixed}
use Rattle.header.proofs.HeadLaws.{read_back, written_fixed, length_header}
use Rattle.cut.specs.Pieces.{pieces, piece_length, piece, joined}
use Rattle.cut.proofs.PiecesLaws.{pieces_one, length_only, pieces_join}
use Rattle.cut.specs.Cutter.{pdu}
use Rattle.cut.proofs.ReadLaws.{GivenWithin, given_fits}
use Rattle.groups.specs.Groups as groups
use Rattle.state.specs.declared.Last.{Last}
use Rattle.state.specs.Limits.{last_within}
use Rattle.state.specs.Table.{found}
use Rattle.answers.specs.declared.Setup.{Setup}
use Rattle.answers.specs.declared.Started.{Started}
use Rattle.refusal.specs.declared.Refusal.TheVariants as refusals
use Rattle.answers.specs.Told.{GroupTold}
use Rattle.rules.proofs.calls.ExactlyLaws.{multicast_with}
use Rattle.rules.specs.calls.First.{Row, row, first}
use Rattle.rules.specs.calls.First as rows
use Rattle.rules.proofs.calls.FirstLaws.{first_given, refusal_given, some_number}
use Rattle.rules.specs.calls.Multicast.{Tables, entries_of, entry_place, entry_at, place_for, cast_rows, listening, cast_outcome, multicast_rows, multicast_tables, one_piece, tables_within}
use Rattle.rules.proofs.calls.MessageLaws.{head_pri}
use Rattle.rules.proofs.calls.MulticastLaws.{tables_of, cast_facts, place_apart, kept_other}
use Rattle.rules.specs.pasts.Past.{World, Event, aside, multicast, Answers}
use Rattle.promised.specs.Age.{HowOld}
use Rattle.promised.proofs.AgeLaws.{cast_age}
use Rattle.promised.proofs.AgreesLaws.{agrees_start}
use Rattle.promised.proofs.CastLaws.{group_count}
use Rattle.promised.specs.HandedOn.{HandedOn, last_heard}
use Rattle.promised.proofs.HandedOnLaws.{Entries, entries_start, entries_after, heard_ring, cast_after_lem}
use Rattle.promised.specs.Judged.{has_length, is_message}
use Rattle.promised.specs.Log.{Exchange, logged, name_of}
use Rattle.promised.specs.Says.{senders_of, groups_of, has_tables, rows_cast, name_at, verdict_after, says}
use Rattle.promises.proofs.ComesBackLaws.{packet_is}
use Rattle.promises.specs.Course.{SetupMeets, Course}
use Rattle.promises.proofs.CourseLaws.{one_course, course_start}
use Rattle.promises.specs.Demands.{OwnEntryOnly, EntryIsLast, ZerosPass, NeverTwentySix, CastSaid, GroupPdu, MayReach, GroupDelivers, CutToGroup, AgeHeard}
use Rattle.promises.proofs.DemandsLaws.{every_said, calls_refuse, not_behind, course_agrees}

-- ---- after a past in which the tables were handed on

module _ (q : Setup) (r : Started) (w : World) (m : SetupMeets q r w) (es : List Event) (rs : Answers es) (v : World) (c : Course w es rs v)
    (begun t : Tables) (right : has_tables q begun ≡ true) (on : HandedOn begun es rs t) where
  entries : Entries q begun (logged [] es rs) t
  entries =
      let is = (one_course w es rs v c).0 in
      subst (λ (x : Answers es). Entries q begun (logged [] es x) t) (sym is)
      (entries_after q begun [] w (agrees_start w (course_start q r w m)) begun (entries_start q begun right) es t (subst (λ (x : Answers es). HandedOn begun es x t) is on))

pub entry_is_last : EntryIsLast
entry_is_last q r w m es rs v c begun t right on = (entries q r w m es rs v c begun t right on).entry

pub cast_said : CastSaid
unfolding says
cast_said q r w m es rs v c begun t right on g packet a u meets =
    every_said q r w m es rs v c (aside (multicast t g packet)) a u meets
    ∙ cast_after_lem q begun (logged [] es rs) t (entries q r w m es rs v c begun t right on) g packet

pub age_heard : AgeHeard
age_heard q r w m es rs v c begun t right on g packet a u meets =
    let log = logged [] es rs in
    let told = cast_said q r w m es rs v c begun t right on g packet a u meets in
    subst (HowOld q.n1 (last_heard q begun log g packet).number (name_of packet).number) (sym (ap (λ (x : GroupTold × Tables × List ℕ). x.0.outcome) told))
    (cast_age q (last_heard q begun log g packet) packet true t g (heard_ring q begun log t (entries q r w m es rs v c begun t right on) g packet))

-- ---- 26

pub zeros_pass : ZerosPass
unfolding last_within
zeros_pass q =
    let n = length (senders_of q) * (groups_of q).count * 8 in
    tables_of n _ (record {
      versions_long = length-replicate n 0;
      numbers_long = length-replicate n 0;
      each = λ k less. let none : ◌≡◌ {A = ℕ} (get_or (replicate n 0) k 0) 0 = get_or-replicate n k 0 0 less in rw none;
    })

-- Its row does not apply,
not_here : (b : Bool) (rs : List Row) → b ≡ false → ¬ (rows.Given rs 26) → ¬ (rows.Given (row refusals.Tables b ∷ rs) 26)
unfolding rows.Given
not_here b rs e others (inl here) = never_both here.0 e
not_here b rs e others (inr later) = others later.1

nothing_given : ¬ (rows.Given [] 26)
unfolding rows.Given
nothing_given given = given

-- and no other row has its number.
not_twenty_six : (ok right b12 b13 b14 b25 b15 b16 b17 : Bool) → right ≡ true
    → ¬ (rows.Given (row refusals.State ok ∷ row refusals.Tables (not right) ∷ row refusals.Length b12 ∷ row refusals.Header b13 ∷ row refusals.Sender b14 ∷ row refusals.Group b25 ∷ row refusals.Test b15 ∷ row refusals.Cut b16 ∷ row refusals.Repeat b17 ∷ []) 26)
not_twenty_six ok right b12 b13 b14 b25 b15 b16 b17 e =
    not_behind 26 refusals.State ok _ (λ z. omega (arith, z)) (not_here (not right) _ (rw e)
    (not_behind 26 refusals.Length b12 _ (λ z. omega (arith, z)) (not_behind 26 refusals.Header b13 _ (λ z. omega (arith, z)) (not_behind 26 refusals.Sender b14 _ (λ z. omega (arith, z))
    (not_behind 26 refusals.Group b25 _ (λ z. omega (arith, z)) (not_behind 26 refusals.Test b15 _ (λ z. omega (arith, z)) (not_behind 26 refusals.Cut b16 _ (λ z. omega (arith, z))
    (not_behind 26 refusals.Repeat b17 _ (λ z. omega (arith, z)) nothing_given))))))))

pub never_twenty_six : NeverTwentySix
unfolding cast_rows
never_twenty_six q r w m es rs v c begun t right on g packet a u meets told =
    let agrees = course_agrees q r w m es rs v c in
    let now-right = (entries q r w m es rs v c begun t right on).right in
    let here : tables_within (entries_of v.state.count v.state.groups.count) t ≡ true = rw (agrees.count, group_count q (logged [] es rs) v agrees t g packet) now-right in
    not_twenty_six _ _ _ _ _ _ _ _ _ here ((calls_refuse v (aside (multicast t g packet)) a u meets).only_if 26 told)

-- ---- one entry

name_of_lem : (t : Tables) (k : ℕ) (u : Tables) → entry_at u k ≡ entry_at t k → name_at u k ≡ name_at t k
name_of_lem t k u e = ap (λ (l : Last). record { version = l.version; number = l.number }) e

pub own_entry_only : OwnEntryOnly
own_entry_only w t g packet r v meets i j p below small other =
    let h = head_of packet in
    let s = listening w.state h in
    let k = entry_place w.state.groups.count i j p in
    let n = first (cast_rows s t g packet h) in
    name_of_lem t k r.1 (ap (λ (x : Tables). entry_at x k) meets.0.kept ∙ ⊎_elim
    (λ (none : n ≡ 0).
    let facts = cast_facts s t g packet h none in
    unfold multicast_tables in kept_other t (place_for s g h) k (cast_outcome s t g packet h) h
    (λ same. other (place_apart w.state.groups.count i j p (found w.state h) (groups.place_of w.state.groups g) h.given.pri below facts.in_group small (head_pri packet h facts.head_within_lem) same)))
    (λ (some : n ≢ 0).
    let given = refusal_given (multicast_rows w.state t g packet) some in
    ap (λ (x : Tables). entry_at x k)
    (multicast_with w.state t g packet given.0 (first_given (multicast_rows w.state t g packet) _ given.1.1 (some_number given.0))).1)
    (eq_or_ne n 0))

-- ---- a message to a group

module _ (g : Given) (octets packet : List ℕ) (is : GroupPdu g octets packet) where
  abbrev head : Head
  head = record { given = g; cut = record { ml = length octets + 64; bsize = length octets + 64; cbn = 1; tbn = 1 } }

  within : GivenWithin g
  within = record {
    field_most = is.data_field_octet;
    node_most = is.node;
    number_on = record { first = is.number.0; last = is.number.1 };
    tcd_most = is.code.1;
    mode_most = is.mode;
    pri_most = is.pri;
  }

  head_is : head_of packet ≡ head
  head_is =
      let most = is.octets_most in
      ap head_of is.is ∙ read_back head octets (given_fits g within is.words head.cut (omega (arith, most)) (omega arith) (omega arith) (omega (arith, most)))

  length_is : length packet ≡ length octets + 64
  length_is = ap length is.is ∙ length-append (header head) octets ∙ omega (arith, length_header head)

  has_length_lem : has_length 64 1472 packet ≡ true
  has_length_lem =
      let most = is.octets_most in
      rw (head_is, length_is, le-leb 64 (length octets + 64) (omega arith), le-leb (length octets + 64) 1472 (omega (arith, most)), eq-eqb (length octets + 64) (length octets + 64) refl)

  is_message_lem : is_message packet ≡ true
  is_message_lem =
      let fixed : is_fixed packet ≡ true = ap is_fixed is.is ∙ written_fixed head octets in
      rw (
        fixed,
        head_is,
        le-leb g.pri 7 is.pri,
        le-leb g.mode 1 is.mode,
        le-leb 1 g.tcd is.code.0,
        le-leb g.tcd 59999 is.code.1,
        le-leb 1 g.number.0 is.number.0,
        le-leb g.number.0 2147483647 is.number.1,
      )

  one_piece_lem : one_piece (head_of packet).cut ≡ true
  unfolding one_piece
  one_piece_lem = rw (head_is, eq-eqb (length octets + 64) (length octets + 64) refl)

  behind : drop 64 packet ≡ octets
  behind = ap (drop 64) is.is ∙ drop_at (header head) octets 64 (length_header head)

  -- No number applies.
  none_applies : (q : Setup) (begun : Tables) (log : List Exchange) (group : ℕ) → MayReach q begun log group packet
      → first (rows_cast q true (verdict_after q (last_heard q begun log group packet) (name_of packet)) group packet) ≡ 0
  unfolding first
  none_applies q begun log group may = rw (
    has_length_lem,
    is_message_lem,
    lt-leb (length (senders_of q)) _ may.known,
    lt-leb (groups_of q).count _ may.registered,
    mode_admits,
    one_piece_lem,
    may.no_repeat,
  )
    where
      mode_admits : eqb (head_of packet).given.mode 1 && eqb q.mode 0 ≡ false
      mode_admits = ⊎_elim
          (λ (online : (head_of packet).given.mode ≡ 0). rw online)
          (λ (test : q.mode ≡ 1). rw test (and-false (eqb (head_of packet).given.mode 1)))
          may.admitted

pub group_delivers : GroupDelivers
group_delivers q r w m es rs v c begun t right on g h octets packet is may a u meets =
    let said-so = cast_said q r w m es rs v c begun t right on g packet a u meets in
    let none = none_applies h octets packet is q begun (logged [] es rs) g may in
    (ap (λ (x : GroupTold × Tables × List ℕ). x.0.outcome) said-so ∙ rw none, ap (λ (x : GroupTold × Tables × List ℕ). x.2) said-so ∙ rw none (behind h octets packet is))

only_piece : (m : List ℕ) (u : ℕ) → pieces (length m) u ≡ 1 → 1 ≤ u → piece m u 1 ≡ m
unfolding joined
only_piece m u one some = ap (λ (k : ℕ). joined k (piece m u)) (sym one) ∙ pieces_join m u some

pub cut_to_group : CutToGroup
unfolding pdu
cut_to_group g words octets u packet short cut =
    let l = cut.limits in
    let one = pieces_one (length octets) u short in
    let whole = only_piece octets u one (omega (arith, l.unit.0)) in
    let own : piece_length (length octets) u 1 ≡ length octets = length_only (length octets) u 1 (omega arith) (omega arith) one in
    record {
      octets_most = omega (arith, short, l.unit.1);
      words = words;
      data_field_octet = l.data_field_octet.1;
      node = l.node.1;
      number = l.number;
      code = l.code;
      mode = ⊎_elim (λ (z : g.mode ≡ 0). omega (arith, z)) (λ (z : g.mode ≡ 1). omega (arith, z)) l.mode;
      pri = l.pri;
      is = packet_is g octets u 1 packet cut ∙ rw (whole, own, one);
    }
