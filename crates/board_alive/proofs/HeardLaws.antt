-- The alive call on words. Assumes nothing.
use Rattle.std.specs.Prelude.{ℕ, ◌%◌, ◌<◌, ◌≡◌, refl, Bool, false, not, cond, List, eqb, Ok, Err}
use Rattle.std.proofs.Common.{sym, ap, subst, ◌∙◌, ⊎_elim, arith}
use Rattle.std.proofs.Math.Bool.{true}
use Rattle.octets.proofs.NumberLaws.{number_bound}
use Rattle.octets.specs.Number.{Octets}
use Rattle.octets.specs.Run.{laid}
use Rattle.octets.specs.Split.{true_or_false, cond_case}
use Rattle.header.specs.declared.Head.{Head}
use Rattle.refusal.specs.declared.Refusal.{Refusal}
use Rattle.refusal.specs.declared.Refusal.TheVariants as refusals
use Rattle.refusal.specs.Numbers.{number_of}
use Rattle.header.specs.Head.{head_of}
use Rattle.signal.specs.declared.Body.{Body}
use Rattle.signal.specs.Alive.{body_of}
use Rattle.signal.specs.AlivePlaces.{alive_place}
use Rattle.signal.specs.AlivePlaces.AliveField.{al_tm_out}
use Rattle.state.specs.declared.Address.{Address}
use Rattle.state.specs.declared.Look.{Look}
use Rattle.state.specs.State.{sender_at, no_heard, with_heard}
use Rattle.state.specs.Table.{source}
use Rattle.answers.specs.declared.Noted.{Noted}
use Rattle.answers.specs.Told.{call_number}
use Rattle.rules.specs.calls.Alive.{signal_rows, heard_by, noted, not_noted, alive_answer}
use Rattle.rules.proofs.calls.AliveLaws.{Heeded, signal_facts, signal_refused, signal_noted}
use Rattle.rules.specs.calls.First.{Row, checked}
use Rattle.rules.proofs.calls.FirstLaws.{none_checked, given_checked, ok_or_err, first_here}
use Rattle.rules.specs.calls.Message.{with_sender}
use Rattle.words.specs.declared.Record.{Record}
use Rattle.words.specs.Words.{place, word, half, record_words, record_at, sender_of, fits, heard_as, is_state, state_in, left_by}
use Rattle.words.proofs.StateLaws.{state_facts}
use Rattle.words_look.specs.Look.{look_in}
use Rattle.words_look.proofs.LookLaws.{Held}
use Rattle.words_look.proofs.HeldLaws.{look_in_lem, look_out, look_so, count_octet, place_few, sender_here, own_fits}
use Rattle.words.proofs.WrittenLaws.{left_same, put_written, put_state, put_is_state, Means, means_same, means_by}
use Rattle.words.proofs.ChangedLaws.{heard_there, heard_fits}
use Rattle.alive.specs.Heard.{heard_in}
use Rattle.board.specs.Calls.{alive_for}

-- What the call answered and left.
abbrev pub Met : List ℕ → List ℕ → ℕ → List ℕ → Type 0
Met l packet r left = (r ≡ alive_for l packet) × (left ≡ left_by l (alive_answer (state_in l) packet).state)

met_by : (l packet : List ℕ) → is_state l ≡ true → (a : Noted) → a ≡ alive_answer (state_in l) packet → (left : List ℕ) → left ≡ left_by l a.state
    → Met l packet (call_number a.call) left
unfolding alive_for
met_by l packet is a e left same = (rw (is, sym e), rw (sym e) same)

-- One sender's words after an alive signal are that sender's.
heard_words_lem : (r : Record) (clock : ℕ) (b : Body) → sender_of (heard_in heard_as clock r b) ≡ heard_by clock (sender_of r) b
unfolding heard_in heard_by
heard_words_lem r clock b = by (eqb b.mode 1)
  where
    by : (m : Bool) → sender_of (cond m (heard_as r true (record { stamp = clock; timeout = b.timeout })) (heard_as r false no_heard))
        ≡ cond m (with_heard (sender_of r) true (record { stamp = clock; timeout = b.timeout })) (with_heard (sender_of r) false no_heard)
    by true = heard_there r true (record { stamp = clock; timeout = b.timeout })
    by false = heard_there r false no_heard

words_fit : (r : Record) (clock : ℕ) (b : Body) → b.timeout < half → fits r ≡ true → fits (heard_in heard_as clock r b) ≡ true
unfolding heard_in
words_fit r clock b short e = cond_case (λ (q : Record). fits q ≡ true) (eqb b.mode 1) _ _
    (λ _. heard_fits r true (record { stamp = clock; timeout = b.timeout }) short e)
    (λ _. heard_fits r false no_heard (omega arith) e)

module _ (l packet : List ℕ) (h : Head) (b : Body) (a : Address) (k : Look) (count : ℕ)
    (eh : h ≡ head_of packet) (eb : b ≡ body_of packet) (ea : a ≡ source h) (el : k ≡ look_in l a) (ec : count ≡ word l 4 % 256) where
  abbrev Rows : List Row
  Rows = signal_rows k.valid count k.at packet h b

  -- The rows of the state that the words are.
  state_rows : is_state l ≡ true → checked (signal_rows k.valid (word l 4) k.at packet h b) ≡ checked Rows
  state_rows is = ap (λ (c : ℕ). checked (signal_rows k.valid c k.at packet h b)) (sym (ec ∙ count_octet l is))

  refused_outside : (n : Refusal) → is_state l ≡ false → checked Rows ≡ Err n → Met l packet (number_of n) l
  unfolding alive_for left_by
  refused_outside n not_so e =
      let nine : number_of n ≡ 9 = sym (given_checked Rows n e) ∙ first_here refusals.State (not k.valid) _ (rw (look_out l a k el not_so)) in
      (rw (not_so, nine), rw not_so)

  pub met_refused : (n : Refusal) → checked Rows ≡ Err n → Met l packet (number_of n) l
  met_refused n e = ⊎_elim
      (λ (is : is_state l ≡ true).
      met_by l packet is (not_noted (state_in l) n) (signal_refused (state_in l) packet h b a k eh eb ea (look_in_lem l a k el is) n (state_rows is ∙ e)) l (left_same l))
      (λ (not_so : is_state l ≡ false). refused_outside n not_so e)
      (true_or_false (is_state l))

  module _ (none : checked Rows ≡ Ok tt) where
    facts : Heeded k.valid count k.at packet h b
    facts = signal_facts k.valid count k.at packet h b (none_checked Rows none)

    held : Held l
    held = look_so l a k el facts.is_valid

    less : k.at < word l 4
    less = omega (arith, facts.registered, ec ∙ count_octet l held.means_state)

    pub met_noted : (r q : Record) (clock : ℕ) (left : List ℕ) → r ≡ record_at l k.at → clock ≡ word l 3 → b.timeout < half → q ≡ heard_in heard_as clock r b
        → left ≡ laid l (place k.at) (record_words q) → Met l packet 0 left
    unfolding left_by
    met_noted r q clock left er ek short eq e =
        let are = state_facts l held.means_state in
        let noted-is = signal_noted (state_in l) packet h b a k eh eb ea (look_in_lem l a k el held.means_state) (state_rows held.means_state ∙ none) in
        let sender : sender_of q ≡ heard_by (word l 3) (sender_at (state_in l) k.at) b = rw (eq, ek, sender_here l held k.at less r er) (heard_words_lem r (word l 3) b) in
        let own : fits q ≡ true = rw eq (words_fit r clock b short (own_fits l held k.at less r er)) in
        met_by l packet held.means_state (noted (state_in l) k.at b) noted-is left
        (e ∙ put_written l are.many k.at (place_few l held k.at less r er) q are less own ∙ rw (held.means_state, sender))

    means_noted : b.timeout < half → Means l (alive_answer (state_in l) packet).state
    means_noted short =
        let r = record_at l k.at in
        let q = heard_in heard_as (word l 3) r b in
        let are = state_facts l held.means_state in
        let few = place_few l held k.at less r refl in
        let own = words_fit r (word l 3) b short (own_fits l held k.at less r refl) in
        let noted-is = signal_noted (state_in l) packet h b a k eh eb ea (look_in_lem l a k el held.means_state) (state_rows held.means_state ∙ none) in
        let sender : sender_of q ≡ heard_by (word l 3) (sender_at (state_in l) k.at) b = rw (sender_here l held k.at less r refl) (heard_words_lem r (word l 3) b) in
        means_by l (laid l (place k.at) (record_words q)) (alive_answer (state_in l) packet).state
        (met_noted r q (word l 3) _ refl refl short refl refl).1
        (put_is_state l are.many k.at few q are own)
        (put_state l are.many k.at few q ∙ ap (with_sender (state_in l) k.at) sender ∙ ap (λ (x : Noted). x.state) noted-is)

-- al_tm_out has four octets.
timeout_short : (packet : List ℕ) → Octets packet → (body_of packet).timeout < half
unfolding body_of
timeout_short packet octets = number_bound 4 packet (alive_place al_tm_out).0 octets

-- What the call leaves means the state that the call by value leaves.
pub alive_means : (l packet : List ℕ) → Octets packet → is_state l ≡ true → Means l (alive_answer (state_in l) packet).state
alive_means l packet octets is =
    let h = head_of packet in
    let b = body_of packet in
    let a = source h in
    let k = look_in l a in
    let count = word l 4 % 256 in
    let rows = Rows l packet h b a k count refl refl refl refl refl in
    ⊎_elim
    (λ (none : checked rows ≡ Ok tt). means_noted l packet h b a k count refl refl refl refl refl none (timeout_short packet octets))
    (λ (given : (n : Refusal) × (checked rows ≡ Err n)).
    let e = signal_refused (state_in l) packet h b a k refl refl refl (look_in_lem l a k refl is) given.0 (state_rows l packet h b a k count refl refl refl refl refl is ∙ given.1) in
    subst (Means l) (ap (λ (x : Noted). x.state) e) (means_same l is))
    (ok_or_err (checked rows))
