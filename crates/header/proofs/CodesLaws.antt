-- Laws of the transaction codes: a user code is one of 1 to 59,999, and no other is; an alive signal's is 60,003.
-- Assumes nothing.
use Rattle.std.specs.Prelude.{◌≡◌, refl, Bool, true, false, cond, ℕ, ◌≤◌, eqb, leb}
use Rattle.std.proofs.Common.{sym, ◌∙◌, leb-true, le-leb, eqb-true}
use Rattle.std.proofs.lemmas.Bool.{false≢true}
use Rattle.octets.specs.Split.{both, and_left, and_right}
use Rattle.header.specs.declared.codes.Code.TheVariants.{User, Alive, System, Neither}
use Rattle.header.specs.Codes.{within, code_of, is_user_code, is_user, is_alive_code, is_alive}

pub user_within : (n : ℕ) → is_user n ≡ within 1 59999 n
unfolding code_of
user_within n = by_tests (within 1 59999 n) (eqb n 60003) (within 60000 65534 n)
  where
    by_tests : (a b c : Bool) → is_user_code (cond a User (cond b Alive (cond c System Neither))) ≡ a
    by_tests true b c = refl
    by_tests false true c = refl
    by_tests false false true = refl
    by_tests false false false = refl

pub user_code : (n : ℕ) → is_user n ≡ true → (1 ≤ n) × (n ≤ 59999)
user_code n e =
    let f = sym (user_within n) ∙ e in
    (leb-true 1 n (and_left (leb 1 n) (leb n 59999) f), leb-true n 59999 (and_right (leb 1 n) (leb n 59999) f))

pub code_user : (n : ℕ) → 1 ≤ n → n ≤ 59999 → is_user n ≡ true
code_user n a b = user_within n ∙ both (leb 1 n) (leb n 59999) (le-leb 1 n a) (le-leb n 59999 b)

pub alive_only : (n : ℕ) → is_alive n ≡ eqb n 60003
unfolding code_of
alive_only n = by_tests (within 1 59999 n) (eqb n 60003) (within 60000 65534 n) (λ e. rw (eqb-true n 60003 e))
  where
    by_tests : (a b c : Bool) → (b ≡ true → a ≡ false) → is_alive_code (cond a User (cond b Alive (cond c System Neither))) ≡ b
    by_tests true true c apart = absurd (false≢true (sym (apart refl)))
    by_tests true false c apart = refl
    by_tests false true c apart = refl
    by_tests false false true apart = refl
    by_tests false false false apart = refl
