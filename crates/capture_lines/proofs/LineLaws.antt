-- Laws of lines: numbers in decimal, and octets added behind others. Assumes nothing.
use Rattle.std.specs.Prelude.{◌≡◌, refl, cond, List, [], ◌∷◌, ◌++◌, ℕ, zero, suc, ◌+◌, ◌-◌, ◌/◌, ◌%◌, ◌^◌, ◌≤◌, ◌<◌, ltb, length, drop, replicate}
use Rattle.std.proofs.Common.{sym, ap, ◌∙◌, ⊎_elim, append_assoc, add-one, arith, length-append, lt-ltb, le-ltb}
use Rattle.std.proofs.Math.Nat.{one-le-pow}
use Rattle.std.proofs.lemmas.List.{length-replicate, replicate-append-replicate}
use Rattle.std.proofs.Math.Seq.{take-append_seam, drop-append_seam, drop-append-add}
use Rattle.io.specs.Counts.{IsPrefixLen}
use Rattle.io.specs.Digits.{hex_digit_ascii, last_digits, IsDigitCount}
use Rattle.octets.specs.Run.{laid}
use Rattle.octets.proofs.RunLaws.{laid_fits, laid_on}
use Rattle.octets.specs.Split.{lt_or_le, cond_case}
use Rattle.capture_lines.specs.declared.Text.{Text}
use Rattle.capture_lines.specs.Line.{decimal, word_of, room, text_of, added}

-- ---- decimal

one_digit : (n k : ℕ) → n < 10 → IsDigitCount 10 1 n k → k ≡ 1
one_digit n zero h f = absurd (omega (arith, f.0))
one_digit n (suc zero) h f = refl
one_digit n (suc (suc k)) h f =
    let less : suc (suc k) - 1 ≡ suc k = omega arith in
    let many : 10 ^ suc k ≤ n = rw less at (f.2 (omega arith)) in
    absurd (omega (arith, one-le-pow k 10 (omega arith)))

more_digits : (n k : ℕ) → 10 ≤ n → IsDigitCount 10 1 n k → 2 ≤ k
more_digits n zero h f = absurd (omega (arith, f.0))
more_digits n (suc zero) h f = absurd (omega (arith, f.1))
more_digits n (suc (suc k)) h f = omega arith

digit : (n : ℕ) → hex_digit_ascii (n % 10) ≡ 48 + n % 10
digit n = rw (lt-ltb (n % 10) 10 (omega arith))

-- The fewest digits that hold a number are its decimal.
pub decimal_digits : (f n k : ℕ) → n < 10 ^ suc f → IsDigitCount 10 1 n k → last_digits 10 k n ≡ decimal f n
unfolding decimal
decimal_digits zero n k l h =
    let one : k ≡ 1 = one_digit n k (omega arith) h in
    rw (one, digit n)
decimal_digits (suc f) n k l h = ⊎_elim
    (λ (small : n < 10).
    let one : k ≡ 1 = one_digit n k small h in
    let same : n % 10 ≡ n = omega arith in
    rw (one, digit n, lt-ltb n 10 small, same))
    (λ (large : 10 ≤ n). by k h (more_digits n k large h) large (λ j. decimal_digits f (n / 10) j (omega arith)))
    (lt_or_le n 10)
  where
    by : (k : ℕ) → IsDigitCount 10 1 n k → 2 ≤ k → 10 ≤ n → ((j : ℕ) → IsDigitCount 10 1 (n / 10) j → last_digits 10 j (n / 10) ≡ decimal f (n / 10))
        → last_digits 10 k n ≡ cond (ltb n 10) ((48 + n) ∷ []) (decimal f (n / 10) ++ ((48 + n % 10) ∷ []))
    by zero h two large rest = absurd (omega arith)
    by (suc zero) h two large rest = absurd (omega arith)
    by (suc (suc k)) h two large rest =
        let less : suc (suc k) - 1 ≡ suc k = omega arith in
        let fewer : suc k - 1 ≡ k = omega arith in
        let many : 10 ^ suc k ≤ n = rw less at (h.2 (omega arith)) in
        rw (le-ltb n 10 large, digit n, rest (suc k) (omega arith, omega (arith, h.1), λ q. rw fewer (omega arith)))

length_digits : (b k n : ℕ) → length (last_digits b k n) ≡ k
length_digits b zero n = refl
length_digits b (suc k) n =
    length-append (last_digits b k (n / b)) (hex_digit_ascii (n % b) ∷ []) ∙ rw (length_digits b k (n / b)) (add-one k)

decimal_room : (f n : ℕ) → length (decimal f n) ≤ suc f
unfolding decimal
decimal_room zero n = omega arith
decimal_room (suc f) n = cond_case (λ (d : List ℕ). length d ≤ suc (suc f)) (ltb n 10) _ _
    (λ e. omega arith)
    (λ e. rw (length-append (decimal f (n / 10)) ((48 + n % 10) ∷ [])) (omega (arith, decimal_room f (n / 10))))

pub word_room : (n : ℕ) → length (word_of n) ≤ 21
unfolding word_of
word_room n = omega (arith, decimal_room 19 n)

-- ---- octets added behind others

zeros : ℕ → List ℕ
zeros n = replicate n 0

drop_zeros : (n k : ℕ) → drop n (replicate {A = ℕ} (n + k) 0) ≡ replicate {A = ℕ} k 0
unfolding zeros
drop_zeros n k =
    ap (drop n) (sym (replicate-append-replicate n k 0))
    ∙ ap (λ (m : ℕ). drop m (zeros n ++ zeros k)) (sym (length-replicate n 0))
    ∙ drop-append_seam (zeros n) (zeros k)

pub added_text : (s p : List ℕ) → length s + length p ≤ room → added (text_of s) p ≡ text_of (s ++ p)
unfolding added text_of
added_text s p h =
    let left = room - length (s ++ p) in
    let zeros : room - length s ≡ length p + left = omega (arith, length-append s p) in
    let all : length (s ++ replicate (room - length s) 0) ≡ room = length-append s (replicate (room - length s) 0) ∙ rw length-replicate (omega arith) in
    let behind : drop (length s + length p) (s ++ replicate (room - length s) 0) ≡ replicate left 0
    = drop-append-add s (replicate (room - length s) 0) (length p) ∙ rw zeros (drop_zeros (length p) left) in
    let octets : laid (s ++ replicate (room - length s) 0) (length s) p ≡ (s ++ p) ++ replicate left 0
    = laid_fits (s ++ replicate (room - length s) 0) (length s) p (omega arith)
    ∙ rw (take-append_seam s (replicate (room - length s) 0), behind) (sym (append_assoc s p (replicate left 0))) in
    rw (octets, length-append s p)

digits_count : (n k : ℕ) → n < 2 ^ 64 → IsDigitCount 10 1 n k → k ≡ length (decimal 19 n)
digits_count n k l few = sym (length_digits 10 k n) ∙ ap length (decimal_digits 19 n k (omega arith) few)

-- A number of 64 bits has at most 20 digits.
pub digits_room : (n k : ℕ) → n < 2 ^ 64 → IsDigitCount 10 1 n k → k ≤ 20
digits_room n k l few = omega (arith, digits_count n k l few, decimal_room 19 n)

-- A blank and the digits, laid down one behind the other.
pub word_added : (t : Text) (n k : ℕ) (d : List ℕ) → t.length ≤ 75 → length t.octets ≡ room → n < 2 ^ 64 → IsDigitCount 10 1 n k → d ≡ last_digits 10 k n
    → record { octets = laid (laid t.octets t.length (32 ∷ [])) (t.length + 1) d; length = t.length + 1 + k } ≡ added t (word_of n)
unfolding added word_of
word_added t n k d short all l few e =
    let is : d ≡ decimal 19 n = e ∙ decimal_digits 19 n k (omega arith) few in
    let count : k ≡ length (decimal 19 n) = digits_count n k l few in
    let octets : laid (laid t.octets t.length (32 ∷ [])) (t.length + 1) d ≡ laid t.octets t.length ((32 ∷ []) ++ decimal 19 n)
    = rw is (laid_on t.octets t.length (32 ∷ []) (decimal 19 n) (omega (arith, decimal_room 19 n))) in
    let length_is : t.length + 1 + k ≡ t.length + length ((32 ∷ []) ++ decimal 19 n) = omega arith in
    rw (octets, length_is)

-- A text's length counts octets of its array.
pub text_counts : (s : List ℕ) (t : Text) → t ≡ text_of s → IsPrefixLen t.length t.octets
unfolding text_of
text_counts s t e =
    let rest = replicate {A = ℕ} (room - length s) 0 in
    rw e (omega (arith, length-append s rest), ap length (sym (take-append_seam s rest)))

-- ---- a line made word by word

-- The text t holds the octets s, which are at most m.
pub record Carries (s : List ℕ) (m : ℕ) (t : Text) : Type 0 where
  pub text : t ≡ text_of s
  pub most : t.length ≤ m

pub carries_letter : (l : ℕ) (t : Text) → t ≡ text_of (l ∷ []) → Carries (l ∷ []) 1 t
unfolding text_of
carries_letter l t e = record { text = e; most = rw e (omega arith) }

-- Octets added behind.
carries_more : (s p : List ℕ) (m k : ℕ) (t r : Text) → Carries s m t → length p ≤ k → m + k ≤ room → r ≡ added t p → Carries (s ++ p) (m + k) r
unfolding text_of
carries_more s p m k t r h short fits e =
    let front : length s ≤ m = rw h.text at h.most in
    let is : r ≡ text_of (s ++ p) = e ∙ ap (λ (x : Text). added x p) h.text ∙ added_text s p (omega arith) in
    record { text = is; most = rw is (omega (arith, length-append s p)) }

pub carries_word : (s : List ℕ) (m n : ℕ) (t r : Text) → Carries s m t → m ≤ 75 → r ≡ added t (word_of n) → Carries (s ++ word_of n) (m + 21) r
carries_word s m n t r h l e = carries_more s (word_of n) m 21 t r h (word_room n) (omega arith) e

pub carries_newline : (s : List ℕ) (m : ℕ) (t r : Text) → Carries s m t → m ≤ 95 → r ≡ added t (10 ∷ []) → Carries (s ++ (10 ∷ [])) (m + 1) r
carries_newline s m t r h l e = carries_more s (10 ∷ []) m 1 t r h (omega arith) (omega arith) e
