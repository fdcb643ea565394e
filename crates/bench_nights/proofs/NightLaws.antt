-- A night packet by packet: from each world that is reached, what is left comes to the same end.
use Rattle.std.specs.Prelude.{◌≡◌, ℕ, zero, suc, ◌+◌, ◌<◌, ◌≤◌, List, [], ◌∷◌, length, take, drop, slice_index, slice_index_or, refl}
use Rattle.std.proofs.Math.Path.{sym}
use Rattle.std.proofs.Common.{◌∙◌, add-one, arith, length-take, length-drop, drop_of_length-le, drop-cons, drop-drop}
use Rattle.octets.specs.Run.{run}
use Rattle.rules.specs.pasts.Past.{World, Event, message, step, after}
use Rattle.bench_nights.specs.Night.{packets_by, sum_by, night_sum}

-- Behind what was taken stands what is dropped, also where fewer octets were there.
behind_taken : (n : ℕ) (l : List ℕ) → drop (length (take n l)) l ≡ drop n l
behind_taken zero l = refl
behind_taken (suc n) [] = refl
behind_taken (suc n) (x ∷ xs) = behind_taken n xs

-- What was taken ends within the packets.
pub ends_within : (packets p : List ℕ) (at n : ℕ) → at ≤ length packets → p ≡ run at n packets → at + length p ≤ length packets
unfolding run
ends_within packets p at n h e = rw e (simp (length-take, length-drop) (omega arith))

-- The packets behind the first i, which end at a place.
abbrev pub left : List ℕ → List ℕ → ℕ → ℕ → List Event
left sizes packets at i = packets_by (drop i sizes) (drop at packets)

-- The sum and the world that were reached there are on the way to the night's end.
pub record Towards (sizes packets : List ℕ) (start : World) (sum : ℕ) (w : World) (at i : ℕ) : Type 0 where
  pub counts : night_sum sum w (left sizes packets at i) ≡ night_sum 0 start (packets_by sizes packets)
  pub leads : after w (left sizes packets at i) ≡ after start (packets_by sizes packets)

module _ (sizes packets : List ℕ) where
  next_left :
      (at i : ℕ) → i < length sizes
      → left sizes packets at i
      ≡ message (run at (slice_index sizes i) packets) ∷ left sizes packets (at + length (run at (slice_index sizes i) packets)) (i + 1)
  unfolding packets_by run
  next_left at i h =
      let n = slice_index_or sizes i 0 in
      let rest = drop at packets in
      let behind : drop (at + length (take n rest)) packets ≡ drop n rest = sym (drop-drop (length (take n rest)) at packets) ∙ behind_taken n rest in
      rw (drop-cons sizes i 0, behind, add-one)

  pub begins : (start w : World) → w ≡ start → Towards sizes packets start 0 w 0 0
  begins start w e = record { counts = rw e; leads = rw e }

  -- One packet more.
  pub turn :
      {start w v : World} {sum k at i : ℕ} (p : List ℕ)
      → Towards sizes packets start sum w at i
      → i < length sizes
      → p ≡ run at (slice_index sizes i) packets
      → k ≡ sum_by sum w (message p)
      → v ≡ step w (message p)
      → Towards sizes packets start k v (at + length p) (i + 1)
  unfolding night_sum after
  turn {at = at} {i = i} p t h e ek ev =
      let next = next_left at i h in
      record { counts = rw (ek, ev, e) (rw next at t.counts); leads = rw (ev, e) (rw next at t.leads) }

  -- No packet is left.
  pub counted : {start w : World} {sum at i : ℕ} → Towards sizes packets start sum w at i → length sizes ≤ i → sum ≡ night_sum 0 start (packets_by sizes packets)
  unfolding packets_by night_sum
  counted t h = rw (drop_of_length-le sizes h) at t.counts

  pub reached : {start w : World} {sum at i : ℕ} → Towards sizes packets start sum w at i → length sizes ≤ i → w ≡ after start (packets_by sizes packets)
  unfolding packets_by after
  reached t h = rw (drop_of_length-le sizes h) at t.leads
