-- Nothing is lost by reading a state from its words, and a sender's words put down are that sender's in the state.
-- Assumes nothing.
use Prim.Native.Nat.{ℕ, zero, suc, ◌+◌, ◌-◌, ◌*◌, ◌/◌, ◌%◌, ◌≤◌, ◌<◌}
use Rattle.std.specs.Prelude.{◌≡◌, ◌≢◌, ◌⊎◌, true, ◌&&◌, leb, drop}
use Rattle.std.proofs.Math.Path.{refl, sym, ap}
use Rattle.std.proofs.Common.{◌∙◌, inl, inr, ⊎_elim, add_assoc, div-add-mod', take-append-drop, length-drop, length-set, take-suc, take-add, length-take-le, drop_at, drop-drop, drop-set-lt, get_or-set_same, get_or-set_other, leb-true}
use mathlib.Core.List.{List, [], ◌∷◌, ◌++◌, append_assoc}
use Rattle.std.proofs.Math.Numerals.{unary_clauses, lt_of_le_of_ne}
use native.Mathlib.Omega.{arith}
use Rattle.std.proofs.Math.ListN.{length, set, take}
use Rattle.octets.specs.Run.{laid}
use Rattle.octets.proofs.RunLaws.{laid_fits, length_laid, laid_out, laid_drop}
use Rattle.octets.specs.Split.{lt_or_le, eq_or_ne, cond_case, and_left, and_right}
use Rattle.state.specs.declared.Receiver.{Receiver}
use Rattle.state.specs.declared.Sender.{Sender}
use Rattle.state.specs.State.{senders_most, no_sender, sender_at, settings_from, state_of}
use Rattle.rules.specs.calls.Message.{with_sender}
use Rattle.words.specs.declared.Record.{Record}
use Rattle.words.specs.Words.{before, each, place, words_most, word, record_in, record_words, record_at, half, flag, flag_word, sender_of, record_of, fits, listed, senders_in, state_in, fit_to, is_state, sender_words, settings_words, front, written, left_by}
use Rattle.words.proofs.GroupsLaws.{groups_back}
use Rattle.words.proofs.WordsLaws.{record_there, record_read}
use Rattle.words.proofs.ListedLaws.{length_listed, listed_at, listed_same, listed_set}
use Rattle.words.proofs.StateLaws.{sender_in_lem, fit_each, IsState, state_facts, state_of_lem}

-- ---- one sender's words, there and back

flag_back : (w : ℕ) → w ≤ 1 → flag_word (flag w) ≡ w
flag_back zero h = refl
flag_back (suc zero) h = refl
flag_back (suc (suc w)) h = absurd (omega arith)

-- The last two octets, and the word by two octets each.
two_back : (w : ℕ) → w / 256 % 256 * 256 + w % 256 ≡ w % 65536
two_back w = omega arith

quarters_back : (w : ℕ) → w / 281474976710656 * 281474976710656 + w / half % 65536 * half + w / 65536 % 65536 * 65536 + w % 65536 ≡ w
quarters_back w = omega arith

cut_back : (w : ℕ) → w / 281474976710656 * 281474976710656 + w / half % 65536 * half + w / 65536 % 65536 * 65536 + w / 256 % 256 * 256 + w % 256 ≡ w
cut_back w =
    let front = w / 281474976710656 * 281474976710656 + w / half % 65536 * half + w / 65536 % 65536 * 65536 in
    add_assoc front (w / 256 % 256 * 256) (w % 256) ∙ rw (two_back w) (quarters_back w)

pub record_back : (r : Record) → fits r ≡ true → record_of (sender_of r) ≡ r
unfolding fits
record_back r e =
    let flags = and_left (leb r.«open» 1 && leb r.alive 1) _ e in
    let is_open = leb-true r.«open» 1 (and_left (leb r.«open» 1) (leb r.alive 1) flags) in
    let is_alive_lem = leb-true r.alive 1 (and_right (leb r.«open» 1) (leb r.alive 1) flags) in
    rw (div-add-mod' r.address 65536, div-add-mod' r.last half, flag_back r.«open» is_open, div-add-mod' r.message half, cut_back r.cut, flag_back r.alive is_alive_lem)

-- ---- a state's words, there and back

firsts : (n : ℕ) (l : List ℕ) → n ≤ length l → take n l ≡ listed (word l) n
unfolding listed
firsts zero l h = refl
firsts (suc n) l h = take-suc l n 0 h ∙ ap (λ (t : List ℕ). t ++ (word l n ∷ [])) (firsts n l (omega arith))

seven : (l : List ℕ) → length l ≡ words_most → word l 0 ≤ 1 → settings_words (state_in l) ≡ take before l
unfolding listed
seven l many test = rw (flag_back (word l 0) test, groups_back (word l 5) (word l 6)) (sym (firsts before l (omega arith)))

ten : (l : List ℕ) (i : ℕ) → place i + each ≤ length l → record_words (record_at l i) ≡ take each (drop (place i) l)
unfolding listed
ten l i h = rw (record_there l i h) (sym (firsts each (drop (place i) l) (omega (arith, length-drop (place i) l))))

-- So they say the sender by themselves.
pub part_in : (l : List ℕ) (i : ℕ) → place i + each ≤ length l → record_in (take each (drop (place i) l)) ≡ record_at l i
part_in l i h = ap record_in (sym (ten l i h))

-- The words of the first k senders are those that were read.
front_same : (l : List ℕ) → length l ≡ words_most → word l 0 ≤ 1 → (k : ℕ) → k ≤ senders_most → fit_to l k ≡ true → front (state_in l) k ≡ take (place k) l
unfolding sender_words
front_same l many test zero few fit = seven l many test
front_same l many test (suc k) few fit =
    let fit-before = and_left (fit_to l k) (fits (record_at l k)) (unfold fit_to in fit) in
    let fit-here = fit_each l (suc k) fit k (omega arith) in
    let more : place (suc k) ≡ place k + each = omega arith in
    let there : place k + each ≤ length l = omega arith in
    ap (λ (t : List ℕ). settings_words (state_in l) ++ (sender_words (sender_at (state_in l)) k ++ t))
    (ap (λ (s : Sender). record_words (record_of s)) (sender_in_lem l k (omega arith)) ∙ ap record_words (record_back (record_at l k) fit-here) ∙ ten l k there)
    ∙ sym (append_assoc (settings_words (state_in l)) (sender_words (sender_at (state_in l)) k) (take each (drop (place k) l)))
    ∙ ap (λ (t : List ℕ). t ++ take each (drop (place k) l)) (front_same l many test k (omega arith) fit-before)
    ∙ sym (rw more (take-add (place k) each l))

-- The words of the state that was read are the words.
pub written_same : (l : List ℕ) → IsState l → written l (state_in l) ≡ l
unfolding written
written_same l f =
    ap (λ (t : List ℕ). t ++ drop (place (word l 4)) l) (front_same l f.many f.test (word l 4) f.few f.fit) ∙ take-append-drop (place (word l 4)) l

-- So a call that leaves the state as it was leaves the words as they were.
pub left_same : (l : List ℕ) → l ≡ left_by l (state_in l)
unfolding left_by
left_same l = cond_case (λ (x : List ℕ). l ≡ x) (is_state l) (written l (state_in l)) l (λ yes. sym (written_same l (state_facts l yes))) (λ _. refl)

-- What a call leaves, if the words past the senders stay.
pub left_is : (l m : List ℕ) (w : Receiver) → is_state l ≡ true → IsState m → state_in m ≡ w → w.count ≡ word l 4
    → drop (place (word l 4)) m ≡ drop (place (word l 4)) l → m ≡ left_by l w
unfolding left_by written
left_is l m w is f e count rest =
    let beyond : drop (place w.count) m ≡ drop (place w.count) l = rw count rest in
    sym (written_same m f) ∙ ap (written m) e ∙ rw (is, beyond)

-- What a call leaves means the state that it leaves.
pub record Means (l : List ℕ) (w : Receiver) : Type 0 where
  pub means_state : is_state (left_by l w) ≡ true
  pub state : state_in (left_by l w) ≡ w

pub means_same : (l : List ℕ) → is_state l ≡ true → Means l (state_in l)
means_same l is = record { means_state = rw (sym (left_same l)) is; state = rw (sym (left_same l)) }

pub means_by : (l m : List ℕ) (w : Receiver) → m ≡ left_by l w → IsState m → state_in m ≡ w → Means l w
means_by l m w e f means = record { means_state = rw (sym e) (state_of_lem m f); state = rw (sym e) means }

-- ---- the time set

-- The clock's word is no sender's.
set_record : (l : List ℕ) (ms i : ℕ) → record_at (set l 3 ms) i ≡ record_at l i
unfolding record_at
set_record l ms i = rw (length-set l 3 ms, drop-set-lt (place i) l 3 ms (omega arith))

set_fits : (l : List ℕ) (ms k : ℕ) → fit_to (set l 3 ms) k ≡ fit_to l k
unfolding fit_to
set_fits l ms zero = refl
set_fits l ms (suc k) = rw (set_fits l ms k, set_record l ms k)

set_senders : (l : List ℕ) (ms : ℕ) → senders_in (set l 3 ms) ≡ senders_in l
unfolding senders_in
set_senders l ms = sym (listed_same no_sender (λ i. sender_of (record_at l i)) senders_most (listed (λ i. sender_of (record_at (set l 3 ms) i)) senders_most)
    (length_listed no_sender (λ i. sender_of (record_at (set l 3 ms) i)) senders_most)
    (λ i h. listed_at no_sender (λ j. sender_of (record_at (set l 3 ms) j)) senders_most i h ∙ ap sender_of (set_record l ms i)))

module _ (l : List ℕ) (ms : ℕ) (f : IsState l) where
  set_word : (k : ℕ) → k ≢ 3 → word (set l 3 ms) k ≡ word l k
  set_word k n = get_or-set_other l 3 k ms 0 n

  pub clock_is_state : IsState (set l 3 ms)
  clock_is_state = record {
    many = length-set l 3 ms ∙ f.many;
    test = rw (set_word 0 (λ e. omega (arith, e))) f.test;
    few = rw (set_word 4 (λ e. omega (arith, e))) f.few;
    fit = rw (set_word 4 (λ e. omega (arith, e))) (set_fits l ms (word l 4) ∙ f.fit);
  }

  pub clock_state : state_in (set l 3 ms) ≡ state_of (settings_from (state_in l)) ms (senders_in l)
  clock_state =
      rw (set_word 0 (λ e. omega (arith, e)), set_word 1 (λ e. omega (arith, e)), set_word 2 (λ e. omega (arith, e)), set_word 4 (λ e. omega (arith, e)), set_word 5 (λ e. omega (arith, e)), set_word 6 (λ e. omega (arith, e)), get_or-set_same l 3 ms 0 (omega (arith, f.many)), set_senders l ms)

  pub clock_beyond : (k : ℕ) → drop (place k) (set l 3 ms) ≡ drop (place k) l
  clock_beyond k = drop-set-lt (place k) l 3 ms (omega arith)

-- ---- a sender's words put down

-- Two senders' words stand apart,
apart : (x y k : ℕ) → k < each → x ≢ y → (place x + k < place y) ⊎ (place y + each ≤ place x + k)
apart x y k h n = ⊎_elim
    (λ (q : x < y). inl (omega arith))
    (λ (q : y ≤ x). inr (omega (arith, lt_of_le_of_ne q (λ e. n (sym e)))))
    (lt_or_le x y)

-- and a sender's words are ten.
record_words_lem : (l m : List ℕ) (n : ℕ) → ((k : ℕ) → k < each → word l (n + k) ≡ word m (n + k)) → record_in (drop n l) ≡ record_in (drop n m)
record_words_lem l m n same = record_read l n ∙ (simp (same0, same 1 (omega arith), same 2 (omega arith), same 3 (omega arith), same 4 (omega arith), same 5 (omega arith), same 6 (omega arith), same 7 (omega arith), same 8 (omega arith), same 9 (omega arith))) ∙ sym (record_read m n)
  where
    same0 : word l n ≡ word m n
    same0 = simp unary_clauses at (same 0 (omega arith))

module _ (l : List ℕ) (many : length l ≡ words_most) (i : ℕ) (few : i < senders_most) (r : Record) where
  abbrev put_down : List ℕ
  put_down = laid l (place i) (record_words r)

  fit_in : place i + each ≤ length l
  fit_in = omega arith

  put_many : length put_down ≡ words_most
  put_many = length_laid l (place i) (record_words r) ∙ many

  put_word : (k : ℕ) → (k < place i) ⊎ (place i + each ≤ k) → word put_down k ≡ word l k
  put_word k h = laid_out l (place i) (record_words r) fit_in k h

  put_here : record_at put_down i ≡ r
  put_here =
      record_there put_down i (omega (arith, put_many))
      ∙ ap record_in (ap (drop (place i)) (laid_fits l (place i) (record_words r) fit_in) ∙ drop_at (take (place i) l) (record_words r ++ drop (place i + each) l) (place i) (length-take-le (place i) l (omega arith)))

  put_there : (j : ℕ) → j < senders_most → j ≢ i → record_at put_down j ≡ record_at l j
  put_there j below n =
      let same : (k : ℕ) → k < each → word put_down (place j + k) ≡ word l (place j + k) = λ k h. put_word (place j + k) (apart j i k h n) in
      record_there put_down j (omega (arith, put_many)) ∙ record_words_lem put_down l (place j) same ∙ sym (record_there l j (omega arith))

  put_senders : senders_in put_down ≡ set (senders_in l) i (sender_of r)
  unfolding senders_in
  put_senders =
      listed_set no_sender (λ k. sender_of (record_at l k)) (λ k. sender_of (record_at put_down k)) senders_most i (λ j h n. ap sender_of (put_there j h n)) few
      ∙ ap (λ (q : Record). set (senders_in l) i (sender_of q)) put_here

  put_front : (k : ℕ) → k < before → word put_down k ≡ word l k
  put_front k h = put_word k (inl (omega arith))

  -- The state with that sender.
  pub put_state : state_in put_down ≡ with_sender (state_in l) i (sender_of r)
  unfolding with_sender
  put_state =
      rw (put_front 0 (omega arith), put_front 1 (omega arith), put_front 2 (omega arith), put_front 3 (omega arith), put_front 4 (omega arith), put_front 5 (omega arith), put_front 6 (omega arith), put_senders)

  put_fits : fits r ≡ true → (k : ℕ) → k ≤ senders_most → fit_to l k ≡ true → fit_to put_down k ≡ true
  unfolding fit_to
  put_fits own zero h e = refl
  put_fits own (suc k) h e =
      let rest = put_fits own k (omega arith) (and_left (fit_to l k) (fits (record_at l k)) e) in
      let here = and_right (fit_to l k) (fits (record_at l k)) e in
      rw rest (⊎_elim
      (λ (z : k ≡ i). rw (z, put_here) own)
      (λ (n : k ≢ i). rw (put_there k (omega arith) n) here)
      (eq_or_ne k i))

  pub put_beyond : (n : ℕ) → place i + each ≤ n → drop n put_down ≡ drop n l
  put_beyond n h =
      let rest : (place i + each) + (n - (place i + each)) ≡ n = omega arith in
      ap (λ (k : ℕ). drop k put_down) (sym rest) ∙ sym (drop-drop (n - (place i + each)) (place i + each) put_down)
      ∙ ap (drop (n - (place i + each))) (laid_drop l (place i) (record_words r) fit_in)
      ∙ drop-drop (n - (place i + each)) (place i + each) l ∙ ap (λ (k : ℕ). drop k l) rest

  pub put_is_state : IsState l → fits r ≡ true → IsState put_down
  put_is_state f own = record {
    many = put_many;
    test = rw (put_front 0 (omega arith)) f.test;
    few = rw (put_front 4 (omega arith)) f.few;
    fit = rw (put_front 4 (omega arith)) (put_fits own (word l 4) f.few f.fit);
  }

  -- Words that are a state's stay so, and past the senders they stay as they are.
  pub put_written : IsState l → i < word l 4 → fits r ≡ true → put_down ≡ written l (with_sender (state_in l) i (sender_of r))
  unfolding written with_sender
  put_written f less own =
      let same = written_same put_down (put_is_state f own) in
      let w = with_sender (state_in l) i (sender_of r) in
      sym same ∙ ap (written put_down) put_state ∙ ap (λ (t : List ℕ). front w (word l 4) ++ t) (put_beyond (place (word l 4)) (omega arith))
