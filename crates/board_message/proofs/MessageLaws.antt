-- The message call on words: what was refused leaves them as they are, and what was admitted leaves the words of the
-- state that the call by value leaves. Assumes nothing.
use Rattle.std.specs.Prelude.{ℕ, ◌%◌, ◌<◌, ◌≡◌, true, false, not, ◌&&◌, List, [], ◌∷◌, ◌++◌, leb, length, Ok, Err}
use Rattle.std.specs.Option.{is_some}
use Rattle.std.proofs.Math.Path.{refl, ap}
use Rattle.std.proofs.Common.{sym, subst, ◌∙◌, ⊎_elim, arith}
use Rattle.std.proofs.lemmas.Bool.{not-false}
use Rattle.octets.specs.Run.{laid}
use Rattle.octets.specs.Split.{true_or_false, cond_case, and_left, and_right}
use Rattle.header.specs.declared.Head.{Head}
use Rattle.ring.specs.Ring.{is_number}
use Rattle.refusal.specs.declared.Refusal.{Refusal}
use Rattle.refusal.specs.declared.Refusal.TheVariants as refusals
use Rattle.refusal.specs.Numbers.{number_of}
use Rattle.header.specs.Codes.{is_user, is_mode, is_pri}
use Rattle.header.specs.Head.{head_of, is_fixed}
use Rattle.state.specs.declared.Address.{Address}
use Rattle.state.specs.declared.Look.{Look}
use Rattle.state.specs.declared.Sender.{Sender}
use Rattle.state.specs.Limits.{valid}
use Rattle.state.specs.State.{sender_at}
use Rattle.state.specs.Table.{source}
use Rattle.state.proofs.WithinLaws.{SenderWithin}
use Rattle.answers.specs.declared.Admission.{Admission}
use Rattle.answers.specs.declared.Answer.{Answer}
use Rattle.answers.specs.declared.Outcome.{Outcome}
use Rattle.answers.specs.declared.Outcome.TheVariants.{Refused}
use Rattle.answers.specs.declared.Where.{Where}
use Rattle.answers.specs.declared.Where.TheVariants.{Nothing}
use Rattle.answers.specs.Told.{refused_by}
use Rattle.rules.specs.calls.Admit.{sender_rows, sender_after, admitted, admission, message_after, last_by, verdict_of, fills, none_dropped}
use Rattle.rules.proofs.calls.AdmitLaws.{Admitted, admitted_facts, admission_by, admission_yes}
use Rattle.rules.proofs.calls.AdmitValidLaws.{after_stays}
use Rattle.rules.specs.calls.Alike.{seen}
use Rattle.rules.specs.calls.First.{Row, row, checked}
use Rattle.rules.proofs.calls.FirstLaws.{none_checked, given_checked, err_none, ok_or_err, first_here, first_none, checked_append}
use Rattle.rules.specs.calls.Message.{head_within, packet_rows, message_answer, refused, where_by, storage_after, with_sender, answer_of}
use Rattle.rules.proofs.calls.MessageLaws.{Passed, passed_facts, Answered, pass_refused, pass_late, pass_taken}
use Rattle.rules.proofs.calls.SeenLaws.{looks_rows, looks_admission, looks_held, looks_dropped, changes_after}
use Rattle.words.specs.declared.Record.{Record}
use Rattle.words.specs.Words.{place, word, record_words, record_at, sender_of, joined_by, is_state, state_in, left_by}
use Rattle.words.specs.Shown.{shown}
use Rattle.words.proofs.StateLaws.{state_facts}
use Rattle.words_look.specs.Look.{is_held, look_in, place_in}
use Rattle.words_look.proofs.LookLaws.{Held, held_by, look_tells, look_held}
use Rattle.words_look.proofs.HeldLaws.{look_in_lem, look_out, look_so, count_octet, n1_octets, place_few, sender_here, sender_ok, own_fits, loaded_seen}
use Rattle.words.proofs.WrittenLaws.{left_same, put_written, put_state, put_is_state, Means, means_same, means_by}
use Rattle.words.proofs.ChangedLaws.{closed_there, opened_there, joined_fits}
use Rattle.board.specs.declared.Told.{Told}
use Rattle.board.specs.Calls.{in_numbers, refused_with, told_of, message_for, storage_for}
use Rattle.board_message.specs.private.Early.{early_rows}

-- What the call answered and left.
abbrev pub Met : List ℕ → List ℕ → List ℕ → Told → List ℕ → List ℕ → Type 0
Met l storage packet r left stored =
    (r ≡ message_for l (length storage) packet)
    × ((left ≡ left_by l (message_answer (state_in l) (length storage) packet).state) × (stored ≡ storage_for l storage packet))

-- It is what the call by value answers and leaves, of words that are a state.
met_by : (l storage packet : List ℕ) → is_state l ≡ true → (a : Answer) (s : List ℕ) → Answered (state_in l) storage packet a s
    → (r : Told) (left : List ℕ) → r ≡ told_of a (length packet) → left ≡ left_by l a.state → Met l storage packet r left s
unfolding message_for storage_for
met_by l storage packet is a s e r left told same =
    (rw (is, sym e.0) told, (rw (sym e.0) same, rw is e.1))

module _ (l storage packet : List ℕ) (h : Head) (a : Address) (k : Look) (count : ℕ)
    (eh : h ≡ head_of packet) (ea : a ≡ source h) (el : k ≡ look_in l a) (ec : count ≡ word l 4 % 256) where
  abbrev Rows : List Row
  Rows = packet_rows k.valid count k.at (length storage) packet h

  -- The rows of the state that the words are.
  abbrev state_rows : List Row
  state_rows = packet_rows k.valid (word l 4) k.at (length storage) packet h

  count_is : is_state l ≡ true → count ≡ word l 4
  count_is is = ec ∙ count_octet l is

  same_rows : is_state l ≡ true → checked state_rows ≡ checked Rows
  same_rows is = ap (λ (c : ℕ). checked (packet_rows k.valid c k.at (length storage) packet h)) (sym (count_is is))

  early_refused : (n : Refusal) → is_state l ≡ true → checked Rows ≡ Err n → Answered (state_in l) storage packet (refused (state_in l) (Refused n 0)) storage
  early_refused n is e =
      pass_refused (state_in l) storage packet h a k eh ea (look_in_lem l a k el is) n (same_rows is ∙ e)

  refused_state : (n : Refusal) → is_state l ≡ true → checked Rows ≡ Err n → Met l storage packet (refused_with (number_of n)) l storage
  unfolding refused
  refused_state n is e =
      met_by l storage packet is (refused (state_in l) (Refused n 0)) storage (early_refused n is e)
      (refused_with (number_of n)) l refl (left_same l)

  refused_outside : (n : Refusal) → is_state l ≡ false → checked Rows ≡ Err n → Met l storage packet (refused_with (number_of n)) l storage
  unfolding message_for storage_for left_by
  refused_outside n not_so e =
      let nine : number_of n ≡ 9 = sym (given_checked Rows n e) ∙ first_here refusals.State (not k.valid) _ (rw (look_out l a k el not_so)) in
      (rw (not_so, nine), (rw not_so, rw not_so))

  -- The first of 9 and 11 to 14 that applies.
  pub met_early : (n : Refusal) → checked Rows ≡ Err n → (t : Told) → t ≡ refused_with (number_of n) → Met l storage packet t l storage
  met_early n e t et =
      let m = ⊎_elim (λ is. refused_state n is e) (λ not_so. refused_outside n not_so e) (true_or_false (is_state l)) in
      (et ∙ m.0, m.1)

  -- None of them applies.
  module _ (none : checked Rows ≡ Ok tt) where
    passed : Passed k.valid count k.at (length storage) packet h
    passed = passed_facts k.valid count k.at (length storage) packet h (none_checked Rows none)

    held : Held l
    held = look_so l a k el passed.is_valid

    state_none : checked state_rows ≡ Ok tt
    state_none = same_rows held.means_state ∙ none

    less : k.at < word l 4
    less = omega (arith, passed.registered, count_is held.means_state)

    -- The sender's words.
    module _ (r : Record) (er : r ≡ record_at l k.at) where
      -- What the call by value makes of the sender, and what is made of what was loaded.
      abbrev by_value : Admission
      by_value = admission (state_in l).test (word l 1) (word l 3) (sender_of r) h

      module _ (o : Admission) (n1 : ℕ) (s : Sender) (e1 : n1 ≡ word l 1 % 65536) (es : s ≡ shown r) (eo : o ≡ admission (state_in l).test n1 (word l 3) s h) where
        loaded : o ≡ admission (state_in l).test (word l 1) (word l 3) (seen (sender_of r)) h
        loaded = eo ∙ rw (es, loaded_seen l held k.at less r er, e1, n1_octets l held.is_valid)

        same_late : checked (sender_rows (state_in l).test (word l 1) (seen (sender_of r)) h) ≡ checked (sender_rows (state_in l).test (word l 1) (sender_of r) h)
        same_late = ap checked (looks_rows h (state_in l).test (word l 1) (sender_of r))

        same_outcome : o.outcome ≡ by_value.outcome
        same_outcome = ap (λ (x : Admission). x.outcome) loaded ∙ looks_admission h (state_in l).test (word l 1) (word l 3) (sender_of r)

        -- 15 to 20.
        same_refusal : is_some (refused_by o.outcome) ≡ is_some (refused_by by_value.outcome)
        same_refusal = ap (λ (x : Outcome). is_some (refused_by x)) same_outcome

        at_place : by_value ≡ admission (state_in l).test (word l 1) (word l 3) (sender_at (state_in l) k.at) h
        at_place = rw (sender_here l held k.at less r er)

        late_refused : is_some (refused_by o.outcome) ≡ true → Answered (state_in l) storage packet (refused (state_in l) o.outcome) storage
        late_refused e =
            rw same_outcome
            (pass_late (state_in l) storage packet h a k eh ea (look_in_lem l a k el held.means_state) state_none by_value at_place (sym same_refusal ∙ e))

        pub met_late : is_some (refused_by o.outcome) ≡ true → (t : Told) → t ≡ in_numbers o.outcome 0 none_dropped Nothing (length packet) → Met l storage packet t l storage
        unfolding refused
        met_late e t et =
            met_by l storage packet held.means_state (refused (state_in l) o.outcome) storage (late_refused e)
            t l et (left_same l)

        -- And none of these.
        module _ (late_none : is_some (refused_by o.outcome) ≡ false) where
          rows_none : checked (sender_rows (state_in l).test (word l 1) (sender_of r) h) ≡ Ok tt
          rows_none =
              err_none _ (ap is_some (sym (admission_by (state_in l).test (word l 1) (word l 3) (sender_of r) h)) ∙ sym same_refusal ∙ late_none)

          is_admitted : by_value ≡ admitted (word l 1) (word l 3) (sender_of r) h
          is_admitted = admission_yes (state_in l).test (word l 1) (word l 3) (sender_of r) h rows_none

          loaded_admitted : o ≡ admitted (word l 1) (word l 3) (seen (sender_of r)) h
          loaded_admitted = loaded ∙ admission_yes (state_in l).test (word l 1) (word l 3) (seen (sender_of r)) h (same_late ∙ rows_none)

          facts : Admitted (word l 1) (sender_of r) h
          facts = admitted_facts (state_in l).test (word l 1) (sender_of r) h (none_checked (sender_rows (state_in l).test (word l 1) (sender_of r) h) rows_none)

          abbrev after : Sender
          after = sender_after (word l 1) (word l 3) (sender_of r) h

          same_held : o.held ≡ by_value.held
          unfolding admitted
          same_held = rw (loaded_admitted, is_admitted) (looks_held h (sender_of r))

          same_dropped : o.dropped ≡ by_value.dropped
          unfolding admitted
          same_dropped = rw (loaded_admitted, is_admitted) (looks_dropped h (sender_of r))

          seen_sender : o.sender ≡ seen after
          unfolding admitted
          seen_sender = rw loaded_admitted (sym (changes_after h (word l 1) (word l 3) (sender_of r)))

          after_within : SenderWithin (word l 3) after
          unfolding head_within
          after_within =
              let a1 = is_fixed packet && is_pri h.given.pri && is_mode h.given.mode in
              let a2 = is_user h.given.tcd in
              let a3 = is_number h.given.number.0 in
              let number = and_right (a1 && a2) a3 passed.head_within_lem in
              let code = and_right a1 a2 (and_left (a1 && a2) a3 passed.head_within_lem) in
              (after_stays (word l 1) (word l 3) (sender_of r) h facts number code).within (sender_ok l held k.at less r er)

          -- The words that are put down are those of the sender afterwards.
          put_after : sender_of (joined_by r (seen after)) ≡ after
          unfolding sender_after
          put_after = cond_case (λ (x : Sender). SenderWithin (word l 3) x → sender_of (joined_by r (seen x)) ≡ x) (fills (sender_of r) h) _ _
              (λ _ f. closed_there r (last_by (verdict_of (word l 1) (sender_of r) h) (sender_of r) h) f.last)
              (λ _ f. opened_there r (word l 3) (message_after (word l 3) (sender_of r) h) (f.message refl))
              after_within

          put_words : laid l (place k.at) (record_words (joined_by r o.sender)) ≡ left_by l (with_sender (state_in l) k.at by_value.sender)
          unfolding left_by admitted
          put_words =
              let own = joined_fits r o.sender (own_fits l held k.at less r er) in
              let is = ap (λ (x : Sender). sender_of (joined_by r x)) seen_sender ∙ put_after in
              let facts-are = state_facts l held.means_state in
              put_written l facts-are.many k.at (place_few l held k.at less r er) (joined_by r o.sender) facts-are less own
              ∙ rw (held.means_state, is, is_admitted)

          pub met_taken : (p : Where) (stored : List ℕ) → p ≡ where_by o.outcome k.at h → stored ≡ storage_after storage k.at h packet
              → (q : Record) (left : List ℕ) → q ≡ joined_by r o.sender → left ≡ laid l (place k.at) (record_words q)
              → (t : Told) → t ≡ in_numbers o.outcome o.held o.dropped p (length packet) → Met l storage packet t left stored
          met_taken p stored ep es q left eq et t told =
              met_by l storage packet held.means_state (answer_of (state_in l) k.at by_value p) stored
              (pass_taken (state_in l) storage packet h a k eh ea (look_in_lem l a k el held.means_state) state_none by_value at_place (sym same_refusal ∙ late_none) p stored (ep ∙ rw same_outcome) es)
              t left (told ∙ rw (same_outcome, same_held, same_dropped)) (et ∙ ap (λ (x : Record). laid l (place k.at) (record_words x)) eq ∙ put_words)

          taken_state : with_sender (state_in l) k.at by_value.sender ≡ (message_answer (state_in l) (length storage) packet).state
          taken_state = ap (λ (x : Answer). x.state) (pass_taken (state_in l) storage packet h a k eh ea (look_in_lem l a k el held.means_state) state_none by_value at_place (sym same_refusal ∙ late_none) _ _ refl refl).0

          means_taken : Means l (message_answer (state_in l) (length storage) packet).state
          unfolding admitted
          means_taken =
              let facts-are = state_facts l held.means_state in
              let q = joined_by r o.sender in
              let few = place_few l held k.at less r er in
              let own = joined_fits r o.sender (own_fits l held k.at less r er) in
              let is : sender_of q ≡ by_value.sender = ap (λ (x : Sender). sender_of (joined_by r x)) seen_sender ∙ put_after ∙ rw is_admitted in
              means_by l (laid l (place k.at) (record_words q)) (message_answer (state_in l) (length storage) packet).state
              (put_words ∙ ap (left_by l) taken_state) (put_is_state l facts-are.many k.at few q facts-are own)
              (put_state l facts-are.many k.at few q ∙ ap (with_sender (state_in l) k.at) is ∙ taken_state)

-- ---- what is told before the header is read

-- 9, 11 and 12 are told as of all rows: of what stands behind them, and of the sender, they say nothing.
early_all : (l : List ℕ) (room : ℕ) (packet : List ℕ) (n : Refusal) → checked (early_rows l room packet) ≡ Err n
    → (a : Address) (i : ℕ) → checked (packet_rows (look_in l a).valid (word l 4 % 256) i room packet (head_of packet)) ≡ Err n
early_all l room packet n e a i =
    let rows = early_rows l room packet in
    let behind = row refusals.Header (not (head_within packet (head_of packet))) ∷ row refusals.Sender (leb (word l 4 % 256) i) ∷ [] in
    let all : checked (rows ++ behind) ≡ Err n = checked_append rows behind ∙ rw e in
    rw (look_tells l a) all

pub met_first : (l storage packet : List ℕ) (n : Refusal) → checked (early_rows l (length storage) packet) ≡ Err n
    → (t : Told) → t ≡ refused_with (number_of n) → Met l storage packet t l storage
met_first l storage packet n e t et =
    let h = head_of packet in
    let a = source h in
    met_early l storage packet h a (look_in l a) (word l 4 % 256) refl refl refl refl n (early_all l (length storage) packet n e a (look_in l a).at) t et

-- Where none of them applies, the place that is looked for is the sender's.
pub look_by : (l : List ℕ) (room : ℕ) (packet : List ℕ) → checked (early_rows l room packet) ≡ Ok tt
    → (a : Address) (count i : ℕ) → count ≡ word l 4 % 256 → i ≡ place_in l a count → record { valid = true; at = i } ≡ look_in l a
look_by l room packet none a count i ec ei =
    let held = held_by l (not-false (is_held l) (first_none _ (not (is_held l)) _ (none_checked (early_rows l room packet) none)).0) in
    let own : i ≡ place_in l a (word l 4) = ei ∙ ap (place_in l a) (ec ∙ count_octet l held.means_state) in
    ap (λ (x : ℕ). record { valid = true; at = x }) own ∙ look_held l a held

-- What the call leaves means the state that the call by value leaves.
pub message_means : (l storage packet : List ℕ) → is_state l ≡ true → Means l (message_answer (state_in l) (length storage) packet).state
unfolding refused
message_means l storage packet is =
    let h = head_of packet in
    let a = source h in
    let k = look_in l a in
    let count = word l 4 % 256 in
    let w = state_in l in
    ⊎_elim
    (λ (none : checked (Rows l storage packet h a k count refl refl refl refl) ≡ Ok tt).
    let r = record_at l k.at in
    let o = admission w.test (word l 1 % 65536) (word l 3) (shown r) h in
    ⊎_elim
    (λ (some : is_some (refused_by o.outcome) ≡ true).
    let e = late_refused l storage packet h a k count refl refl refl refl none r refl o (word l 1 % 65536) (shown r) refl refl refl some in
    subst (Means l) (ap (λ (x : Answer). x.state) e.0) (means_same l is))
    (λ (late_none : is_some (refused_by o.outcome) ≡ false).
    means_taken l storage packet h a k count refl refl refl refl none r refl o (word l 1 % 65536) (shown r) refl refl refl late_none)
    (true_or_false (is_some (refused_by o.outcome))))
    (λ (given : (n : Refusal) × (checked (Rows l storage packet h a k count refl refl refl refl) ≡ Err n)).
    let e = early_refused l storage packet h a k count refl refl refl refl given.0 is given.1 in
    subst (Means l) (ap (λ (x : Answer). x.state) e.0) (means_same l is))
    (ok_or_err (checked (Rows l storage packet h a k count refl refl refl refl)))
