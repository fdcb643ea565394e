-- Laws of the clock call. Assumes nothing.
use Rattle.std.specs.Prelude.{◌≡◌, refl, ◌≢◌, Bool, true, false, not, cond, ◌||◌, ℕ, zero, suc, ◌+◌, ◌*◌, ◌%◌, ◌^◌, ◌≤◌, ◌<◌, length, get_or, set, Ok}
use Rattle.std.proofs.Common.{sym, ap, ◌∙◌, mod-eq_of_lt, one-mul, add-zero, add-one, arith, pow_mono, get_or-set_other}
use Rattle.std.proofs.Math.Logic.{⊎_elim}
use mathlib.Core.List.{List, [], ◌∷◌}
use Rattle.std.proofs.Math.Dec.{ltb}
use Rattle.std.proofs.Math.Pow.{pow-lt}
use Rattle.octets.specs.Split.{true_or_false, cond_case, eq_or_ne}
use Rattle.refusal.specs.declared.Refusal.TheVariants as refusals
use Rattle.map.specs.Map.{bit}
use Rattle.map.proofs.MapLaws.{bit_set, bit_keep, bit_above}
use Rattle.state.specs.declared.Sender.{Sender}
use Rattle.state.specs.declared.Receiver.{Receiver}
use Rattle.answers.specs.declared.Ticked.{Ticked}
use Rattle.rules.specs.calls.Clock.{clock_rows, drops, dies, aged, aged_senders, map_where, ticked, not_ticked, clock_answer}
use Rattle.rules.specs.calls.First.{row, checked}
use Rattle.rules.proofs.calls.FirstLaws.{checked_here, checked_later}
use Rattle.state.specs.Limits.{valid, clock_most}
use Rattle.state.specs.State.{no_sender, sender_at, settings_from, state_of, with_senders}
use Rattle.state.proofs.WithinLaws.{written_place, valid_length}

-- A sender whose turn has not come is as it was.
pub aged_later : (t now : ℕ) (l : List Sender) (k j : ℕ) → k ≤ j → get_or (aged_senders t now l k) j no_sender ≡ get_or l j no_sender
unfolding aged_senders
aged_later t now l zero j h = refl
aged_later t now l (suc k) j h =
    get_or-set_other (aged_senders t now l k) k j (aged t now (get_or l k no_sender)) no_sender (λ e. omega arith) ∙ aged_later t now l k j (omega arith)

-- A sender whose turn has come is aged.
pub aged_done : (t now : ℕ) (l : List Sender) (k j : ℕ) → k ≤ length l → j < k
    → get_or (aged_senders t now l k) j no_sender ≡ aged t now (get_or l j no_sender)
unfolding aged_senders
aged_done t now l k j room h = written_place (aged_senders t now l) (λ i. aged t now (get_or l i no_sender)) (λ i. refl) k j h (omega arith)

pub aged_more : (t now : ℕ) (l m : List Sender) (k : ℕ) (s : Sender) → m ≡ aged_senders t now l k → s ≡ aged t now (get_or m k no_sender)
    → set m k s ≡ aged_senders t now l (k + 1)
unfolding aged_senders
aged_more t now l m k s e f = rw (add-one k, f, e, aged_later t now l k k (omega arith))

pub map_more : (f : Sender → Bool) (l : List Sender) (k x : ℕ) → x ≡ map_where f l k → x + cond (f (get_or l k no_sender)) (2 ^ k) 0 ≡ map_where f l (k + 1)
unfolding map_where
map_more f l k x e = rw (add-one k, e)

pub map_below : (f : Sender → Bool) (l : List Sender) (k : ℕ) → map_where f l k < 2 ^ k
unfolding map_where
map_below f l zero = omega arith
map_below f l (suc k) = cond_case (λ (x : ℕ). map_where f l k + x < 2 ^ suc k) (f (get_or l k no_sender)) (2 ^ k) 0
    (λ e. omega (arith, map_below f l k)) (λ e. omega (arith, map_below f l k))

-- ---- the answer, by the tests

pub clock_nine : (w : Receiver) (now : ℕ) → valid w ≡ false → not_ticked w refusals.State ≡ clock_answer w now
unfolding clock_answer
clock_nine w now e = rw (checked_here refusals.State (not (valid w)) (row refusals.Clock (ltb now w.clock || ltb clock_most now) ∷ []) (rw e))

module _ (w : Receiver) (now : ℕ) (e : valid w ≡ true) where
  rest : checked (clock_rows w now) ≡ checked (row refusals.Clock (ltb now w.clock || ltb clock_most now) ∷ [])
  rest = checked_later refusals.State (not (valid w)) (row refusals.Clock (ltb now w.clock || ltb clock_most now) ∷ []) (rw e)

  pub clock_back_lem : ltb now w.clock || ltb clock_most now ≡ true → not_ticked w refusals.Clock ≡ clock_answer w now
  unfolding clock_answer
  clock_back_lem f = rw (rest, checked_here refusals.Clock (ltb now w.clock || ltb clock_most now) [] f)

  pub clock_on : ltb now w.clock || ltb clock_most now ≡ false → ticked w now ≡ clock_answer w now
  unfolding clock_answer checked
  clock_on f = rw (rest, f)

  -- What it leaves of the time and of the sender at place i: what held of them before, or holds of them aged.
  pub clock_at : (i : ℕ) → i < w.count → (P : ℕ → Sender → Type 0) → (ltb now w.clock || ltb clock_most now ≡ true → P w.clock (sender_at w i))
      → (ltb now w.clock || ltb clock_most now ≡ false → P now (aged w.t now (sender_at w i)))
      → P (clock_answer w now).state.clock (sender_at (clock_answer w now).state i)
  unfolding ticked not_ticked
  clock_at i here P back on = ⊎_elim
      (λ (f : ltb now w.clock || ltb clock_most now ≡ true). rw (← clock_back_lem f) (back f))
      (λ (f : ltb now w.clock || ltb clock_most now ≡ false).
      rw (← clock_on f, aged_done w.t now w.senders w.count i (valid_length w e) here) (on f))
      (true_or_false (ltb now w.clock || ltb clock_most now))

-- ---- one turn of the loop

pub map_again : (t now : ℕ) (f : Sender → Bool) (l m : List Sender) (k x : ℕ) (b : Bool) → m ≡ aged_senders t now l k → x ≡ map_where f l k
    → b ≡ f (get_or m k no_sender) → x + cond b (2 ^ k) 0 ≡ map_where f l (k + 1)
map_again t now f l m k x b e g h =
    rw (h, e, aged_later t now l k k (omega arith)) (map_more f l k x g)

pub state_more : (w v : Receiver) (t now k : ℕ) (s : Sender) → v ≡ with_senders w (aged_senders t now w.senders k) → s ≡ aged t now (get_or v.senders k no_sender)
    → with_senders v (set v.senders k s) ≡ with_senders w (aged_senders t now w.senders (k + 1))
state_more w v t now k s e f =
    ap (λ (u : Receiver). with_senders u (set v.senders k s)) e
    ∙ ap (with_senders w) (aged_more t now w.senders v.senders k s (ap (λ (u : Receiver). u.senders) e) f)

pub ticked_is : (w v : Receiver) (now k x y : ℕ) → k ≡ w.count → v ≡ with_senders w (aged_senders w.t now w.senders k)
    → x ≡ map_where (drops w.t now) w.senders k → y ≡ map_where (dies now) w.senders k
    → record { call = Ok tt; dropped = x; dead = y; state = state_of (settings_from v) now v.senders } ≡ ticked w now
unfolding ticked
ticked_is w v now k x y e f g h = rw (g, h, f, e)

-- ---- a bit of a 16-bit map

pub shift_sixteen : (i : ℕ) → i < 16 → (1 * 2 ^ i) % 65536 ≡ 2 ^ i
shift_sixteen i h =
    let l : 1 * 2 ^ i < 65536 = rw one-mul (pow-lt h) in
    mod-eq_of_lt l ∙ one-mul (2 ^ i)

pub place_fits : (i m : ℕ) → i < 16 → m < 2 ^ i → m + 2 ^ i < 65536
place_fits i m h l = omega (arith, pow_mono {i = suc i} {j = 16} h)

-- A sender's bit tells whether it holds of that sender.
pub map_bit : (f : Sender → Bool) (l : List Sender) (k i : ℕ) → i < k → bit i (map_where f l k) ≡ cond (f (get_or l i no_sender)) 1 0
unfolding map_where
map_bit f l zero i less = absurd (omega arith)
map_bit f l (suc k) i less =
    let m = map_where f l k in
    let clear : bit k m ≡ 0 = bit_above k k m (map_below f l k) (omega arith) in
    ⊎_elim
    (λ (e : i ≡ k). rw e (cond_case (λ (x : ℕ). bit k (m + x) ≡ cond (f (get_or l k no_sender)) 1 0) (f (get_or l k no_sender)) (2 ^ k) 0
    (λ y. rw y (bit_set k m clear)) (λ n. rw (n, add-zero m) clear)))
    (λ (e : i ≢ k). cond_case (λ (x : ℕ). bit i (m + x) ≡ cond (f (get_or l i no_sender)) 1 0) (f (get_or l k no_sender)) (2 ^ k) 0
    (λ y. bit_keep i k m clear e ∙ map_bit f l k i (omega arith)) (λ n. rw (add-zero m) (map_bit f l k i (omega arith))))
    (eq_or_ne i k)

-- A sender whose bit in the dropped map is 0 had nothing dropped.
pub not_reported : (w : Receiver) (now : ℕ) → valid w ≡ true → ltb now w.clock || ltb clock_most now ≡ false → (i : ℕ) → i < w.count
    → bit i (clock_answer w now).dropped ≡ 0 → drops w.t now (sender_at w i) ≡ false
unfolding ticked
not_reported w now ok on i here e = none (drops w.t now (sender_at w i))
    (sym (map_bit (drops w.t now) w.senders w.count i here) ∙ ap (λ (x : Ticked). bit i x.dropped) (clock_on w now ok on) ∙ e)
  where
    none : (b : Bool) → cond {A = ℕ} b 1 0 ≡ 0 → b ≡ false
    none true z = absurd (omega (arith, z))
    none false z = refl
