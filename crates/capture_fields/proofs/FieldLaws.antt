-- Laws of cutting: when the next field is bad, cut or whole, and that a field is the same however much more was read.
-- Assumes nothing.
use Rattle.std.specs.Prelude.{◌≡◌, refl, Bool, true, false, cond, List, ◌++◌, ℕ, ◌+◌, ◌≤◌, ◌<◌, eqb, ltb, drop, Option, None, Some, Ok, Err}
use Rattle.std.proofs.Common.{sym, ap, ◌∙◌, length-append, length-drop}
use native.Mathlib.Omega.{arith}
use Rattle.std.proofs.Math.ListN.{length, get_or-append}
use Rattle.std.proofs.lemmas.List.{take-append-le, drop-append-le}
use borrow.Author.Tests.{ne_eqb, lt-ltb, le-ltb, ltb-false}
use Rattle.octets.specs.Number.{number}
use Rattle.octets.proofs.NumberLaws.{number_ext}
use Rattle.octets.specs.Run.{run}
use Rattle.capture_fields.specs.declared.Kind.{Kind}
use Rattle.capture_fields.specs.declared.Unread.TheVariants.{Cut, Bad}
use Rattle.capture_fields.specs.declared.Whole.{Whole}
use Rattle.capture_fields.specs.Field.{tag_of, size_of, head_size, kind_of, field_of, next_of, contents_of}

-- The kind of the field at the front.
abbrev pub kind_at : List ℕ → Option Kind
kind_at s = kind_of (tag_of s) (size_of s)

module _ (s : List ℕ) (head : head_size ≤ length s) where
  pub next_headed : next_of s ≡ field_of s (kind_at s)
  unfolding next_of
  next_headed = rw (ne_eqb (length s) 0 (λ z. omega arith), le-ltb (length s) head_size head)

  pub next_bad : kind_at s ≡ None → next_of s ≡ Err Bad
  next_bad e = next_headed ∙ ap (field_of s) e

  pub next_cut : (k : Kind) → kind_at s ≡ Some k → length s < head_size + size_of s → next_of s ≡ Err Cut
  next_cut k e h = next_headed ∙ ap (field_of s) e ∙ rw (lt-ltb (length s) (head_size + size_of s) h)

  pub next_whole : (k : Kind) → kind_at s ≡ Some k → head_size + size_of s ≤ length s → next_of s ≡ Ok (Some (record { kind = k; size = size_of s }))
  next_whole k e h = next_headed ∙ ap (field_of s) e ∙ rw (le-ltb (length s) (head_size + size_of s) h)

-- ---- what is cut is exactly the field

-- A whole field has a tag that is not bad, its own length, and all of its octets.
pub record IsField (s : List ℕ) (f : Whole) : Type 0 where
  pub its_kind : kind_at s ≡ Some f.kind
  pub its_size : f.size ≡ size_of s
  pub all_there : head_size + f.size ≤ length s

pub whole_field : (s : List ℕ) (f : Whole) → next_of s ≡ Ok (Some f) → IsField s f
unfolding next_of
whole_field s f = by (eqb (length s) 0) (ltb (length s) head_size) (kind_at s) refl
  where
    there : (k : Kind) → kind_at s ≡ Some k → (d : Bool) → ltb (length s) (head_size + size_of s) ≡ d
        → cond d (Err Cut) (Ok (Some (record { kind = k; size = size_of s }))) ≡ Ok (Some f) → IsField s f
    there k ek true ed e = cc
    there k ek false ed e =
        let same : record { kind = k; size = size_of s } ≡ f = cc in
        let size : f.size ≡ size_of s = sym (ap (λ (x : Whole). x.size) same) in
        record { its_kind = ek ∙ ap (λ (x : Whole). Some x.kind) same; its_size = size; all_there = omega (arith, size, ltb-false (length s) (head_size + size_of s) ed) }

    by : (a b : Bool) (o : Option Kind) → kind_at s ≡ o → cond a (Ok None) (cond b (Err Cut) (field_of s o)) ≡ Ok (Some f) → IsField s f
    by true b o eo e = cc
    by false true o eo e = cc
    by false false None eo e = cc
    by false false (Some k) eo e = there k eo (ltb (length s) (head_size + size_of s)) refl e

pub field_whole : (s : List ℕ) (f : Whole) → IsField s f → next_of s ≡ Ok (Some f)
field_whole s f i =
    next_whole s (omega (arith, i.all_there)) f.kind i.its_kind (omega (arith, i.its_size, i.all_there)) ∙ ap (λ (n : ℕ). Ok (Some (record { kind = f.kind; size = n }))) (sym i.its_size)

-- However much more was read, the field and its contents are the same.
front : (w at : ℕ) (s t : List ℕ) → at + w ≤ length s → number w (s ++ t) at ≡ number w s at
front w at s t h = number_ext w (s ++ t) s at at (λ k q. get_or-append s t 0 (at + k) (omega arith))

pub whole_more : (s t : List ℕ) (f : Whole) → next_of s ≡ Ok (Some f) → next_of (s ++ t) ≡ Ok (Some f)
whole_more s t f e =
    let i = whole_field s f e in
    let tag : tag_of (s ++ t) ≡ tag_of s = front 1 0 s t (omega (arith, i.all_there)) in
    let size : size_of (s ++ t) ≡ size_of s = front 2 1 s t (omega (arith, i.all_there)) in
    field_whole (s ++ t) f (record {
      its_kind = rw (tag, size) i.its_kind;
      its_size = rw size i.its_size;
      all_there = omega (arith, i.all_there, length-append s t);
    })

pub contents_more : (s t : List ℕ) (f : Whole) → next_of s ≡ Ok (Some f) → contents_of (s ++ t) f.size ≡ contents_of s f.size
unfolding run
contents_more s t f e =
    let i = whole_field s f e in
    rw (drop-append-le head_size s t (omega (arith, i.all_there)))
    (take-append-le f.size (drop head_size s) t (rw (length-drop head_size s) (omega (arith, i.all_there))))
