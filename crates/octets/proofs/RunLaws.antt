-- Laws of runs: what was laid down is there, and all else stays. Assumes nothing.
use Rattle.std.specs.Prelude.{◌≡◌, ◌⊎◌, false, List, [], ◌∷◌, ◌++◌, ℕ, ◌+◌, ◌-◌, ◌≤◌, ◌<◌, leb, take}
use Rattle.std.proofs.Math.Path.{sym, ap}
use Rattle.std.proofs.Common.{◌∙◌, ⊎_elim, append_assoc, append-nil, add_assoc, take-append-drop, drop_of_length-le, length-append, length-take, length-drop, take-take, length-take-le, get_or-append-add, get_or-take, get_or-drop, take-add, take_at, drop_at, le-leb}
use native.Mathlib.Omega.{arith}
use Rattle.std.proofs.Math.ListN.{length, drop, get_or-append}
use Rattle.std.proofs.lemmas.List.{drop-append-le, take-append-le}
use Rattle.std.proofs.Math.Seq.{take-append_seam, paste, take-length, drop-drop, drop-append_seam}
use Rattle.std.proofs.lemmas.Bool.{lt-leb}
use Rattle.octets.specs.Number.{octet}
use Rattle.octets.specs.Run.{run, laid}
use Rattle.octets.specs.Split.{lt_or_le}

-- What is longer than the room behind its place is not laid down.
pub laid_unfit : (s : List ℕ) (at : ℕ) (p : List ℕ) → leb (at + length p) (length s) ≡ false → laid s at p ≡ s
unfolding laid
laid_unfit s at p e = rw e

pub laid_past : (s : List ℕ) (at : ℕ) (p : List ℕ) → length s < at + length p → laid s at p ≡ s
laid_past s at p h = laid_unfit s at p (lt-leb (at + length p) (length s) h)

pub laid_fits : (s : List ℕ) (at : ℕ) (p : List ℕ) → at + length p ≤ length s
    → laid s at p ≡ take at s ++ (p ++ drop (at + length p) s)
unfolding laid
laid_fits s at p h = rw (le-leb (at + length p) (length s) h)

pub length_laid : (s : List ℕ) (at : ℕ) (p : List ℕ) → length (laid s at p) ≡ length s
length_laid s at p = ⊎_elim
    (λ (h : length s < at + length p). ap length (laid_past s at p h))
    (λ (h : at + length p ≤ length s). ap length (laid_fits s at p h) ∙ simp (length-append, length-take, length-drop) (omega arith))
    (lt_or_le (length s) (at + length p))

module _ (s : List ℕ) (at : ℕ) (p : List ℕ) (fits : at + length p ≤ length s) where
  front : length (take at s) ≡ at
  front = length-take-le at s (omega arith)

  laid_behind : (k : ℕ) → octet (laid s at p) (at + k) ≡ octet (p ++ drop (at + length p) s) k
  laid_behind k =
      rw (laid_fits s at p fits)
      (ap (λ (i : ℕ). octet (take at s ++ (p ++ drop (at + length p) s)) (i + k)) (sym front)
      ∙ get_or-append-add (take at s) (p ++ drop (at + length p) s) k 0)

  -- The octets laid down are there.
  pub laid_in : (k : ℕ) → k < length p → octet (laid s at p) (at + k) ≡ octet p k
  laid_in k h = laid_behind k ∙ get_or-append p (drop (at + length p) s) 0 k h

  laid_below : (i : ℕ) → i < at → octet (laid s at p) i ≡ octet s i
  laid_below i h =
      rw (laid_fits s at p fits)
      (get_or-append (take at s) (p ++ drop (at + length p) s) 0 i (rw front h) ∙ get_or-take at s i 0 h)

  laid_above : (k : ℕ) → octet (laid s at p) (at + (length p + k)) ≡ octet s (at + (length p + k))
  laid_above k =
      let e : at + length p + k ≡ at + (length p + k) = omega arith in
      laid_behind (length p + k) ∙ get_or-append-add p (drop (at + length p) s) k 0
      ∙ get_or-drop (at + length p) s k 0 ∙ ap (octet s) e

  -- Every other octet stays.
  pub laid_out : (i : ℕ) → (i < at) ⊎ (at + length p ≤ i) → octet (laid s at p) i ≡ octet s i
  laid_out i = ⊎_elim
      (laid_below i)
      (λ (h : at + length p ≤ i).
      let e : at + (length p + (i - (at + length p))) ≡ i = omega arith in
      ap (octet (laid s at p)) (sym e) ∙ laid_above (i - (at + length p)) ∙ ap (octet s) e)

pub length_run : (at n : ℕ) (s : List ℕ) → at + n ≤ length s → length (run at n s) ≡ n
unfolding run
length_run at n s h = simp (length-take, length-drop) (omega arith)

pub octet_run : (at n : ℕ) (s : List ℕ) (k : ℕ) → k < n → octet (run at n s) k ≡ octet s (at + k)
unfolding run
octet_run at n s k h = get_or-take n (drop at s) k 0 h ∙ get_or-drop at s k 0

-- A run goes on where the one before it ends.
pub take_run : (at n : ℕ) (s : List ℕ) → take (at + n) s ≡ take at s ++ run at n s
unfolding run
take_run at n s = take-add at n s

-- What a loop leaves that has copied every octet of p.
pub laid_paste : (s : List ℕ) (at : ℕ) (p : List ℕ) → at + length p ≤ length s → paste s at p (length p) ≡ laid s at p
laid_paste s at p h = rw (take-length p, append_assoc (take at s) p (drop (at + length p) s)) (sym (laid_fits s at p h))

-- What stands behind a run that was laid down stays.
pub laid_drop : (s : List ℕ) (at : ℕ) (p : List ℕ) → at + length p ≤ length s → drop (at + length p) (laid s at p) ≡ drop (at + length p) s
laid_drop s at p h =
    let back : drop at (laid s at p) ≡ p ++ drop (at + length p) s
    = ap (drop at) (laid_fits s at p h) ∙ drop_at (take at s) (p ++ drop (at + length p) s) at (length-take-le at s (omega arith)) in
    sym (drop-drop (length p) at (laid s at p)) ∙ ap (drop (length p)) back ∙ drop-append_seam p (drop (at + length p) s)

-- A run laid down behind another is one with it.
pub laid_on : (s : List ℕ) (at : ℕ) (p q : List ℕ) → at + (length p + length q) ≤ length s → laid (laid s at p) (at + length p) q ≡ laid s at (p ++ q)
laid_on s at p q h =
    let here : laid s at p ≡ take at s ++ p ++ drop (at + length p) s
    = laid_fits s at p (omega arith) ∙ sym (append_assoc (take at s) p (drop (at + length p) s)) in
    let front : length (take at s ++ p) ≡ at + length p = length-append (take at s) p ∙ rw (length-take-le at s (omega arith)) in
    let before : take (at + length p) (laid s at p) ≡ take at s ++ p
    = ap (take (at + length p)) here ∙ take_at (take at s ++ p) (drop (at + length p) s) (at + length p) front in
    let behind : drop (at + length p + length q) (laid s at p) ≡ drop (at + (length p + length q)) s
    = sym (drop-drop (length q) (at + length p) (laid s at p)) ∙ ap (drop (length q)) (laid_drop s at p (omega arith))
    ∙ drop-drop (length q) (at + length p) s ∙ ap (λ (k : ℕ). drop k s) (add_assoc at (length p) (length q)) in
    let both : length (p ++ q) ≡ length p + length q = length-append p q in
    let rest = drop (at + (length p + length q)) s in
    let whole : laid s at (p ++ q) ≡ take at s ++ (p ++ (q ++ rest))
    = laid_fits s at (p ++ q) (omega arith) ∙ rw (both, append_assoc p q rest) in
    laid_fits (laid s at p) (at + length p) q (omega (arith, length_laid s at p))
    ∙ rw (before, behind, whole) (append_assoc (take at s) p (q ++ rest))

-- A run, taken the other way round.
run_drop : (at n : ℕ) (s : List ℕ) → at ≤ length s → run at n s ≡ drop at (take (at + n) s)
unfolding run
run_drop at n s h = sym (ap (drop at) (take-add at n s) ∙ drop_at (take at s) (take n (drop at s)) at (length-take-le at s h))

module _ (s : List ℕ) (at : ℕ) (p : List ℕ) (fits : at + length p ≤ length s) where
  drop_laid : drop at (laid s at p) ≡ p ++ drop (at + length p) s
  drop_laid = ap (drop at) (laid_fits s at p fits) ∙ drop_at (take at s) (p ++ drop (at + length p) s) at (length-take-le at s (omega arith))

  -- What was laid down reads back.
  pub run_laid : run at (length p) (laid s at p) ≡ p
  unfolding run
  run_laid = rw drop_laid (take-append_seam p (drop (at + length p) s))

  take_laid : (n : ℕ) → n ≤ at → take n (laid s at p) ≡ take n s
  take_laid n h =
      let g : n ≤ length (take at s) = rw length-take (omega arith) in
      ap (take n) (laid_fits s at p fits) ∙ take-append-le n (take at s) (p ++ drop (at + length p) s) g ∙ take-take n at s h

  -- A run that ends before it stays,
  pub run_before : (b n : ℕ) → b + n ≤ at → run b n (laid s at p) ≡ run b n s
  run_before b n h =
      run_drop b n (laid s at p) (rw length_laid (omega arith)) ∙ ap (drop b) (take_laid (b + n) h) ∙ sym (run_drop b n s (omega arith))

  -- and so does one that starts behind it.
  pub run_behind : (b n : ℕ) → at + length p ≤ b → run b n (laid s at p) ≡ run b n s
  unfolding run
  run_behind b n h =
      let more = b - (at + length p) in
      let e : b ≡ at + length p + more = omega arith in
      ap (take n)
      (ap (λ (x : ℕ). drop x (laid s at p)) e ∙ sym (drop-drop more (at + length p) (laid s at p))
      ∙ ap (drop more) (laid_drop s at p fits) ∙ drop-drop more (at + length p) s ∙ ap (λ (x : ℕ). drop x s) (sym e))

-- Laying down nothing changes nothing.
pub laid_nothing : (s : List ℕ) (at : ℕ) → at ≤ length s → laid s at [] ≡ s
laid_nothing s at h =
    let e : at + 0 ≡ at = omega arith in
    laid_fits s at [] (omega arith) ∙ ap (λ (k : ℕ). take at s ++ drop k s) e ∙ take-append-drop at s

pub laid_empty : (s : List ℕ) (at : ℕ) (p : List ℕ) → length p ≡ 0 → laid s at p ≡ s
laid_empty s at [] e = ⊎_elim
    (λ (h : length s < at). laid_past s at [] (omega (arith, h)))
    (λ (h : at ≤ length s). laid_nothing s at h)
    (lt_or_le (length s) at)
laid_empty s at (x ∷ p) e = absurd (omega (arith, e))

-- What is laid over all of a list is what is left.
pub laid_all : (s p : List ℕ) → length p ≡ length s → laid s 0 p ≡ p
laid_all s p e =
    laid_fits s 0 p (omega (arith, e)) ∙ ap (λ (l : List ℕ). p ++ l) (drop_of_length-le s {i = 0 + length p} (omega (arith, e))) ∙ append-nil p

-- A run of a run.
pub run_run : (at n b k : ℕ) (s : List ℕ) → b + k ≤ n → at + n ≤ length s → run b k (run at n s) ≡ run (at + b) k s
unfolding run
run_run at n b k s h room =
    let r : b ≤ length (take n (drop at s)) = simp (length-take, length-drop) (omega arith) in
    let q : b ≤ length (drop at s) = simp length-drop (omega arith) in
    let part = take n (drop at s) in
    run_drop b k part r ∙ ap (drop b) (take-take (b + k) n (drop at s) h) ∙ sym (run_drop b k (drop at s) q) ∙ ap (take k) (drop-drop b at s)

-- ---- a run laid down within a run

head_in : (s : List ℕ) (at n b : ℕ) → b ≤ n → take at s ++ take b (run at n s) ≡ take (at + b) s
unfolding run
head_in s at n b h = rw (take-take b n (drop at s) h) (sym (take-add at b s))

tail_in : (s : List ℕ) (at n c : ℕ) → at + n ≤ length s → c ≤ n → drop c (run at n s) ++ drop (at + n) s ≡ drop (at + c) s
unfolding run
tail_in s at n c room h =
    let e : c ≤ length (take n (drop at s)) = simp (length-take, length-drop) (omega arith) in
    ap (λ (x : List ℕ). drop c (take n (drop at s)) ++ x) (sym (drop-drop n at s))
    ∙ sym (drop-append-le c (take n (drop at s)) (drop n (drop at s)) e)
    ∙ ap (drop c) (take-append-drop n (drop at s)) ∙ drop-drop c at s

laid_within : (s : List ℕ) (at n b : ℕ) (p : List ℕ) → at + n ≤ length s → b + length p ≤ n → laid s at (laid (run at n s) b p) ≡ laid s (at + b) p
laid_within s at n b p room h =
    let r = run at n s in
    let e : length r ≡ n = length_run at n s room in
    let f : length (laid r b p) ≡ n = length_laid r b p ∙ e in
    let z : at + (b + length p) ≡ at + b + length p = omega arith in
    let inner : laid r b p ≡ take b r ++ (p ++ drop (b + length p) r) = laid_fits r b p (omega arith) in
    laid_fits s at (laid r b p) (omega arith)
    ∙ rw (
      f,
      inner,
      append_assoc (take b r) (p ++ drop (b + length p) r) (drop (at + n) s),
      append_assoc p (drop (b + length p) r) (drop (at + n) s),
      tail_in s at n (b + length p) room h,
      ← append_assoc (take at s) (take b r) (p ++ drop (at + (b + length p)) s),
      head_in s at n b (omega arith),
      z,
    ) (sym (laid_fits s (at + b) p (omega arith)))

-- What is laid down within a run is laid down in the run.
pub run_laid_within : (s : List ℕ) (at n b : ℕ) (p : List ℕ) → at + n ≤ length s → b + length p ≤ n → run at n (laid s (at + b) p) ≡ laid (run at n s) b p
run_laid_within s at n b p room h =
    let x = laid (run at n s) b p in
    let f : length x ≡ n = length_laid (run at n s) b p ∙ length_run at n s room in
    let back : run at (length x) (laid s at x) ≡ x = run_laid s at x (omega arith) in
    ap (run at n) (sym (laid_within s at n b p room h)) ∙ ap (λ (k : ℕ). run at k (laid s at x)) (sym f) ∙ back
