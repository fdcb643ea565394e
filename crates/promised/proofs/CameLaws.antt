-- Whether a packet is a piece, and whether a piece came, is decided by computing; so one of the four cases of an
-- arrival always applies. Assumes nothing.
use Rattle.std.specs.Prelude.{ℕ, zero, suc, ◌≤◌, ◌≡◌, refl, ◌≢◌, ◌⊎◌, Bool, true, false, List, [], ◌∷◌, eqb, leb, length, drop}
use Rattle.std.proofs.Common.{sym, subst, inl, inr, ⊎_elim, arith, eqb-true, eq-eqb, leb-true, le-leb}
use Rattle.std.proofs.Math.Logic.Dec.{and as dec_and}
use Rattle.std.proofs.lemmas.Bool.{false≢true}
use Rattle.octets.specs.Split.{eq_or_ne}
use Rattle.header.specs.declared.Cut.{Cut}
use Rattle.header.specs.Head.{head_of}
use Rattle.header.specs.Places.{header_size}
use Rattle.cut.specs.Cutter.{cut_for}
use Rattle.cut.specs.Pieces.{piece}
use Rattle.promised.specs.Judged.{is_from}
use Rattle.promised.specs.Delivery.{Sent, count, PieceOf, Brings, Came, OneApplies, is_last, is_one, came_before, all_came}
use Rattle.rules.specs.pasts.Past.{Event, message, alive, clock, aside}

-- ---- decisions that compute

unfoldable pub decided : {A : Type 0} (b : Bool) → (b ≡ true → A) → (A → b ≡ true) → Dec A
decided true f g = yes (f refl)
decided false f g = no (λ a. false≢true (g a))

unfoldable pub dec_by : {A B : Type 0} → (A → B) → (B → A) → Dec A → Dec B
dec_by f g (yes a) = yes (f a)
dec_by f g (no n) = no (λ b. n (g b))

unfoldable pub dec_or : {A B : Type 0} → Dec A → Dec B → Dec (A ⊎ B)
dec_or (yes a) d = yes (inl a)
dec_or (no n) (yes b) = yes (inr b)
dec_or (no n) (no k) = no (λ s. ⊎_elim n k s)

unfoldable pub dec_true : (b : Bool) → Dec (b ≡ true)
dec_true true = yes refl
dec_true false = no false≢true

unfoldable pub dec_eq : (a b : ℕ) → Dec (a ≡ b)
dec_eq a b = decided (eqb a b) (eqb-true a b) (eq-eqb a b)

unfoldable pub dec_le : (a b : ℕ) → Dec (a ≤ b)
dec_le a b = decided (leb a b) (leb-true a b) (le-leb a b)

unfoldable pub dec_octets : (a b : List ℕ) → Dec (a ≡ b)
dec_octets [] [] = yes refl
dec_octets [] (y ∷ b) = no (λ e. let z : ◌≡◌ {A = ℕ} 0 1 = cc in omega arith)
dec_octets (x ∷ a) [] = no (λ e. let z : ◌≡◌ {A = ℕ} 0 1 = cc in omega arith)
dec_octets (x ∷ a) (y ∷ b) = dec_by (λ f. rw (f.0, f.1)) (λ e. (cc, cc)) (dec_and (dec_eq x y) (dec_octets a b))

unfoldable pub dec_cut : (a b : Cut) → Dec (a ≡ b)
dec_cut a b = dec_by
    (λ f. λ i. record { ml = f.0.0 i; bsize = f.0.1 i; cbn = f.1.0 i; tbn = f.1.1 i })
    (λ e. ((rw e, rw e), (rw e, rw e)))
    (dec_and (dec_and (dec_eq a.ml b.ml) (dec_eq a.bsize b.bsize)) (dec_and (dec_eq a.cbn b.cbn) (dec_eq a.tbn b.tbn)))

-- ---- whether a packet is a piece, and whether a piece came

module _ (m : Sent) where
  unfoldable pub dec_piece : (c : ℕ) (p : List ℕ) → Dec (PieceOf m c p)
  dec_piece c p = dec_by
      (λ f. record {
        numbered = f.0.0;
        from = f.0.1;
        version = f.1.0.0;
        number = f.1.0.1;
        code = f.1.1.0.0;
        mode = f.1.1.0.1;
        cut = f.1.1.1.0;
        octets = f.1.1.1.1;
      })
      (λ f. ((f.numbered, f.from), ((f.version, f.number), ((f.code, f.mode), (f.cut, f.octets)))))
      (dec_and (dec_and (dec_and (dec_le 1 c) (dec_le c (count m))) (dec_true (is_from m.address p)))
      (dec_and (dec_and (dec_eq (head_of p).given.version.0 m.version.0) (dec_eq (head_of p).given.number.0 m.number.0))
      (dec_and (dec_and (dec_eq (head_of p).given.tcd m.code) (dec_eq (head_of p).given.mode m.mode))
      (dec_and (dec_cut (head_of p).cut (cut_for (length m.octets) m.u c)) (dec_octets (drop header_size p) (piece m.octets m.u c))))))

  unfoldable pub dec_brings : (c : ℕ) (e : Event) → Dec (Brings m c e)
  dec_brings c (message p) = dec_piece c p
  dec_brings c (alive p) = no (λ z. z)
  dec_brings c (clock now) = no (λ z. z)
  dec_brings c (aside call) = no (λ z. z)

  unfoldable pub dec_came : (c : ℕ) (es : List Event) → Dec (Came m c es)
  dec_came c [] = no (λ z. z)
  dec_came c (e ∷ es) = dec_or (dec_brings c e) (dec_came c es)

-- ---- one of the four cases applies

module _ (m : Sent) (es : List Event) (c : ℕ) where
  -- Of the first k pieces all but c came, or another one did not.
  abbrev OthersCame : ℕ → Type 0
  OthersCame k = (d : ℕ) → 1 ≤ d → d ≤ k → d ≢ c → Came m d es

  abbrev OneMissing : ℕ → Type 0
  OneMissing k = (d : ℕ) × (1 ≤ d) × (d ≤ k) × (d ≢ c) × ¬ (Came m d es)

  unfoldable pub others : (k : ℕ) → OthersCame k ⊎ OneMissing k
  others zero = inl (λ d low high. absurd (omega arith))
  others (suc k) = more (others k) (dec_eq (suc k) c) (dec_came m (suc k) es)
    where
      more : OthersCame k ⊎ OneMissing k → Dec (suc k ≡ c) → Dec (Came m (suc k) es) → OthersCame (suc k) ⊎ OneMissing (suc k)
      more (inr z) q d = inr (z.0, z.1, omega (arith, z.2), z.3, z.4)
      more (inl f) (yes e) d = inl (λ x low high ne. f x low (omega (arith, ne)) ne)
      more (inl f) (no n) (no z) = inr (suc k, omega arith, omega arith, n, z)
      more (inl f) (no n) (yes y) = inl (λ x low high ne. ⊎_elim
          (λ (e : x ≡ suc k). subst (λ (z : ℕ). Came m z es) (sym e) y)
          (λ (e : x ≢ suc k). f x low (omega (arith, e)) ne)
          (eq_or_ne x (suc k)))

  unfoldable pub one_applies : OneApplies m es c
  one_applies = by (dec_came m c es) (others (count m))
    where
      by : Dec (Came m c es) → OthersCame (count m) ⊎ OneMissing (count m) → OneApplies m es c
      by (no n) (inl rest) = is_last (n, λ d numbered ne. rest d numbered.0 numbered.1 ne)
      by (no n) (inr z) = is_one (n, (z.0, (z.1, z.2), z.3, z.4))
      by (yes y) (inr z) = came_before (y, (z.0, (z.1, z.2), z.4))
      by (yes y) (inl rest) = all_came (λ d numbered. ⊎_elim
          (λ (e : d ≡ c). subst (λ (x : ℕ). Came m x es) (sym e) y)
          (λ (e : d ≢ c). rest d numbered.0 numbered.1 e)
          (eq_or_ne d c))
