-- A state written word by word. Assumes nothing.
use Prim.Native.Nat.{ℕ, zero, suc, ◌+◌, ◌*◌, ◌≤◌, ◌<◌}
use Rattle.std.specs.Prelude.{◌≡◌, Bool, true, false, ◌&&◌, List, [], ◌++◌, leb, length, get_or, take, drop}
use Rattle.std.proofs.Math.Path.{refl, sym}
use Rattle.std.proofs.Common.{ap, ◌∙◌, append_assoc, append-nil, add-one, ⊎_elim, arith, leb-true, length-append, length-drop, length-set, take_at, drop_at, drop-drop}
use Rattle.std.proofs.lemmas.List.{get_or-replicate}
use Rattle.std.proofs.Math.Seq.{drop-append-add}
use Rattle.octets.specs.Run.{laid}
use Rattle.octets.proofs.RunLaws.{laid_fits}
use Rattle.octets.specs.Split.{lt_or_le, cond_case, and_left, and_right}
use Rattle.header.specs.Codes.{is_data_field, is_node}
use Rattle.state.specs.declared.Address.{Address}
use Rattle.state.specs.declared.Receiver.{Receiver}
use Rattle.state.specs.declared.Sender.{Sender}
use Rattle.state.specs.Key.{Narrow}
use Rattle.state.specs.Limits.{is_address, new_among, given, addresses_within}
use Rattle.state.specs.State.{senders_most, no_address, no_sender, new_sender, sender_at, empty_receiver}
use Rattle.state.proofs.WithinLaws.{set_place}
use Rattle.answers.specs.declared.Setup.{Setup}
use Rattle.answers.specs.declared.Started.{Started}
use Rattle.rules.specs.calls.Setup.{setup_within, new_senders, setup_state, setup_answer}
use Rattle.rules.proofs.calls.SetupLaws.{setup_facts}
use Rattle.words.specs.declared.Record.{Record}
use Rattle.words.specs.Words.{before, each, place, words_most, record_in, record_words, record_at, flag_word, sender_of, record_of, fits, senders_in, state_in, fit_to, is_state, sender_words, settings_words, front, words_of}
use Rattle.words.proofs.GroupsLaws.{Octets, none_octets, kept_octets, groups_there}
use Rattle.words.proofs.WordsLaws.{address_back, record_there}
use Rattle.words.proofs.ListedLaws.{listed_same}
use Rattle.words.proofs.StateLaws.{state_of_lem}
use Rattle.words.proofs.ChangedLaws.{flag_there}

length_senders : (w : Receiver) (k : ℕ) → length (sender_words (sender_at w) k) ≡ k * each
unfolding sender_words
length_senders w zero = refl
length_senders w (suc k) = length-append (sender_words (sender_at w) k) (record_words (record_of (sender_at w k))) ∙ rw (length_senders w k) (omega arith)

length_front : (w : Receiver) (k : ℕ) → length (front w k) ≡ place k
length_front w k = length-append (settings_words w) (sender_words (sender_at w) k) ∙ rw (length_senders w k)

pub settings_many : (l m : List ℕ) (w : Receiver) → length l ≡ words_most → m ≡ settings_words w ++ drop before l → length m ≡ words_most
settings_many l m w many e = ap length e ∙ length-append (settings_words w) (drop before l) ∙ omega (arith, length-drop before l)

-- Nothing of the senders is written yet.
pub senders_none : (l m : List ℕ) (w : Receiver) → m ≡ settings_words w ++ drop before l → m ≡ front w 0 ++ drop (place 0) m
unfolding sender_words
senders_none l m w e =
    let rest : drop before m ≡ drop before l = ap (drop before) e ∙ drop_at (settings_words w) (drop before l) before refl in
    e ∙ rw rest

-- One sender more.
pub sender_set : (l m : List ℕ) (w : Receiver) (i : ℕ) (r : Record) → length l ≡ words_most → i < senders_most → m ≡ front w i ++ drop (place i) l
    → r ≡ record_of (sender_at w i) → laid m (place i) (record_words r) ≡ front w (i + 1) ++ drop (place (i + 1)) l
unfolding sender_words
sender_set l m w i r many few em er =
    let p = record_words (record_of (sender_at w i)) in
    let d = drop (place (i + 1)) l in
    let long = length_front w i in
    let rest = length-drop (place i) l in
    let fits : place i + each ≤ length m = omega (arith, ap length em, length-append (front w i) (drop (place i) l), long, rest) in
    let head : take (place i) m ≡ front w i = ap (take (place i)) em ∙ take_at (front w i) (drop (place i) l) (place i) long in
    let next : place i + each ≡ place (i + 1) = omega arith in
    let tail : drop (place i + each) m ≡ d
    = ap (drop (place i + each)) em ∙ ap (λ (k : ℕ). drop (k + each) (front w i ++ drop (place i) l)) (sym long)
    ∙ drop-append-add (front w i) (drop (place i) l) each ∙ drop-drop each (place i) l ∙ ap (λ (k : ℕ). drop k l) next in
    ap (λ (q : Record). laid m (place i) (record_words q)) er ∙ laid_fits m (place i) p fits ∙ rw (head, tail, add-one i) (simp append_assoc)

-- ---- the words that setup leaves

-- The words of the sender at place j, and all behind them.
rest_from : (w : Receiver) (k j : ℕ) (e : List ℕ) → j < k → (t : List ℕ) × (drop (place j) (front w k ++ e) ≡ record_words (record_of (sender_at w j)) ++ t)
unfolding sender_words
rest_from w zero j e h = absurd (omega arith)
rest_from w (suc k) j e h = ⊎_elim
    (λ (q : j < k).
    let p = record_words (record_of (sender_at w k)) in
    let inner = rest_from w k j (p ++ e) q in
    (inner.0, ap (drop (place j)) (simp append_assoc) ∙ inner.1))
    (λ (q : k ≤ j).
    let z : j ≡ k = omega arith in
    let p = record_words (record_of (sender_at w k)) in
    (e, rw z (ap (drop (place k)) (simp append_assoc) ∙ drop_at (front w k) (p ++ e) (place k) (length_front w k))))
    (lt_or_le j k)

-- All 16 senders are read back.
read_back : (w : Receiver) (j : ℕ) → j < senders_most → record_at (words_of w) j ≡ record_of (sender_at w j)
read_back w j few =
    let part = rest_from w senders_most j [] few in
    let whole : drop (place j) (words_of w) ≡ record_words (record_of (sender_at w j)) ++ part.0
    = ap (drop (place j)) (sym (append-nil (words_of w))) ∙ part.1 in
    record_there (words_of w) j (omega (arith, length_front w senders_most)) ∙ ap record_in whole

-- A sender at setup, whose node has two octets.
abbrev New : Sender → Type 0
New s = (a : Address) × Narrow a × (s ≡ new_sender a)

none_new : New no_sender
none_new = (no_address, omega arith, refl)

narrow_each : (l : List Address) (k : ℕ) → addresses_within l k ≡ true → (j : ℕ) → j < k → Narrow (given l j)
unfolding addresses_within
narrow_each l zero e j h = absurd (omega arith)
narrow_each l (suc k) e j h =
    let here = and_right (addresses_within l k) (is_address (given l k) && new_among (given l) k (given l k)) e in
    let node = and_right (is_data_field (given l k).field.0) (is_node (given l k).node.0) (and_left (is_address (given l k)) (new_among (given l) k (given l k)) here) in
    let small = leb-true (given l k).node.0 4095 (and_right (leb 1 (given l k).node.0) (leb (given l k).node.0 4095) node) in
    ⊎_elim
    (λ (q : j < k). narrow_each l k (and_left (addresses_within l k) (is_address (given l k) && new_among (given l) k (given l k)) e) j q)
    (λ (q : k ≤ j).
    let z : j ≡ k = omega arith in
    rw z (omega arith))
    (lt_or_le j k)

new_length : (l : List Address) (k : ℕ) → length (new_senders l k) ≡ senders_most
unfolding new_senders
new_length l zero = refl
new_length l (suc k) = length-set (new_senders l k) k (new_sender (given l k)) ∙ new_length l k

new_each : (l : List Address) (k : ℕ) → ((j : ℕ) → j < k → Narrow (given l j)) → (j : ℕ) → j < senders_most → New (get_or (new_senders l k) j no_sender)
unfolding new_senders
new_each l zero narrow j h = rw (get_or-replicate senders_most j no_sender no_sender h) none_new
new_each l (suc k) narrow j h =
    set_place New (new_senders l k) k j (new_sender (given l k)) (omega (arith, new_length l k)) (λ _. (given l k, narrow k (omega arith), refl))
    (new_each l k (λ i q. narrow i (omega arith)) j h)

-- It is read back as it was.
new_back : (s : Sender) → New s → (sender_of (record_of s) ≡ s) × (fits (record_of s) ≡ true)
unfolding fits
new_back s n = rw n.2 (ap new_sender (address_back n.0 n.1), refl)

-- What setup gives.
module _ (w : Receiver) (places : length w.senders ≡ senders_most) (few : w.count ≤ senders_most) (octets : Octets w.groups)
    (new : (j : ℕ) → j < senders_most → New (sender_at w j)) where
  senders_back : senders_in (words_of w) ≡ w.senders
  unfolding senders_in
  senders_back = listed_same no_sender (λ i. sender_of (record_at (words_of w) i)) senders_most w.senders places
      (λ i h. sym (ap sender_of (read_back w i h) ∙ (new_back (sender_at w i) (new i h)).0))

  fit_all : (k : ℕ) → k ≤ senders_most → fit_to (words_of w) k ≡ true
  unfolding fit_to
  fit_all zero h = refl
  fit_all (suc k) h = rw (fit_all k (omega arith), read_back w k (omega arith)) (new_back (sender_at w k) (new k (omega arith))).1

  words_state : is_state (words_of w) ≡ true
  words_state = state_of_lem (words_of w) (record {
    many = length_front w senders_most;
    test = flag_few w.test;
    few = few;
    fit = fit_all w.count few;
  })
    where
      flag_few : (b : Bool) → flag_word b ≤ 1
      flag_few true = omega arith
      flag_few false = omega arith

  words_mean : state_in (words_of w) ≡ w
  words_mean = rw (senders_back, flag_there w.test, groups_there w.groups octets)

-- The words that setup leaves are the state that it gives.
pub setup_means : (q : Setup) → (is_state (words_of (setup_answer q).state) ≡ true) × (state_in (words_of (setup_answer q).state) ≡ (setup_answer q).state)
unfolding setup_answer setup_state
setup_means q = cond_case (λ (a : Started). (is_state (words_of a.state) ≡ true) × (state_in (words_of a.state) ≡ a.state)) (setup_within q) _ _
    (λ e.
    let facts = setup_facts q e in
    let long = new_length q.senders q.count in
    let new = new_each q.senders q.count (narrow_each q.senders q.count facts.addresses) in
    let octets = kept_octets q.groups facts.groups in
    (words_state (setup_state q) long facts.count octets new, words_mean (setup_state q) long facts.count octets new))
    (λ _.
    let new : (j : ℕ) → j < senders_most → New (sender_at empty_receiver j) = λ j h. rw (get_or-replicate senders_most j no_sender no_sender h) none_new in
    (words_state empty_receiver refl (omega arith) none_octets new, words_mean empty_receiver refl (omega arith) none_octets new))
