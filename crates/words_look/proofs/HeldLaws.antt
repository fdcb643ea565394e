-- What is known of words that a look found to be a state within its limits, and of the sender's words at a place.
-- Assumes nothing.
use Rattle.std.specs.Prelude.{ℕ, ◌%◌, ◌<◌, ◌≡◌, true, false, ◌&&◌, List, leb}
use Rattle.std.proofs.Common.{sym, ap, subst, ◌∙◌, mod-eq_of_lt, arith, leb-true}
use Rattle.octets.specs.Split.{both, and_left, and_right}
use Rattle.groups.specs.Groups.{groups_within}
use Rattle.groups.proofs.GroupsLaws.{within_few}
use Rattle.state.specs.declared.Address.{Address}
use Rattle.state.specs.declared.Look.{Look}
use Rattle.state.specs.Limits.{clock_most, is_n1, is_drop_time, sender_within, settings_of, valid}
use Rattle.state.specs.State.{senders_most, sender_at}
use Rattle.state.specs.Table.{look_at}
use Rattle.state.proofs.WithinLaws.{SenderWithin, valid_settings, valid_groups, valid_sender, sender_of_lem}
use Rattle.rules.specs.calls.Alike.{seen}
use Rattle.words.specs.declared.Record.{Record}
use Rattle.words.specs.Words.{word, groups_in, record_at, sender_of, fits, is_state, state_in}
use Rattle.words.specs.Shown.{shown}
use Rattle.words.proofs.StateLaws.{state_facts, sender_in_lem, fit_each}
use Rattle.words.proofs.WordsLaws.{shown_seen}
use Rattle.words_look.specs.Look.{look_in}
use Rattle.words_look.proofs.LookLaws.{Held, held_by, look_tells}

-- ---- what the look found

module _ (l : List ℕ) (a : Address) (k : Look) (el : k ≡ look_in l a) where
  pub look_in_lem : is_state l ≡ true → k ≡ look_at (state_in l) a
  unfolding look_in
  look_in_lem is = el ∙ rw is

  pub look_out : is_state l ≡ false → k.valid ≡ false
  unfolding look_in
  look_out not_so = rw (el, not_so)

  pub look_so : k.valid ≡ true → Held l
  look_so e = held_by l (sym (ap (λ (x : Look). x.valid) el ∙ look_tells l a) ∙ e)

-- The count in an octet.
pub count_octet : (l : List ℕ) → is_state l ≡ true → word l 4 % 256 ≡ word l 4
count_octet l is = mod-eq_of_lt (omega (arith, (state_facts l is).few))

-- N1 in two octets.
pub n1_octets : (l : List ℕ) → valid (state_in l) ≡ true → word l 1 % 65536 ≡ word l 1
unfolding settings_of
n1_octets l e =
    let a1 = leb (word l 3) clock_most in
    let a2 = leb (word l 4) senders_most in
    let a3 = is_n1 (word l 1) in
    let a4 = is_drop_time (word l 2) in
    let a5 = groups_within (groups_in (word l 5) (word l 6)) in
    let e4 = and_left (a1 && a2 && a3 && a4) a5 (and_left (a1 && a2 && a3 && a4 && a5) _ (valid_settings (state_in l) e)) in
    let n1 = and_right (a1 && a2) a3 (and_left (a1 && a2 && a3) a4 e4) in
    mod-eq_of_lt (omega (arith, leb-true (word l 1) 1024 (and_right (leb 1 (word l 1)) (leb (word l 1) 1024) n1)))

-- The number of groups in an octet.
pub groups_octet : (l : List ℕ) → valid (state_in l) ≡ true → groups_in (word l 5 % 256) (word l 6) ≡ groups_in (word l 5) (word l 6)
groups_octet l e =
    ap (λ (k : ℕ). groups_in k (word l 6)) (mod-eq_of_lt (omega (arith, within_few (groups_in (word l 5) (word l 6)) (valid_groups (state_in l) e))))

-- ---- the sender at a place

module _ (l : List ℕ) (h : Held l) (i : ℕ) (less : i < word l 4) (r : Record) (er : r ≡ record_at l i) where
  pub place_few : i < senders_most
  place_few = omega (arith, (state_facts l h.means_state).few)

  pub sender_here : sender_at (state_in l) i ≡ sender_of r
  sender_here = sender_in_lem l i place_few ∙ ap sender_of (sym er)

  pub sender_ok : SenderWithin (word l 3) (sender_of r)
  sender_ok = subst (SenderWithin (word l 3)) sender_here (valid_sender (state_in l) h.is_valid i less)

  pub own_fits : fits r ≡ true
  own_fits = rw er (fit_each l (word l 4) (state_facts l h.means_state).fit i less)

  -- What is loaded is what is looked at.
  pub loaded_seen : shown r ≡ seen (sender_of r)
  loaded_seen = shown_seen (word l 3) r (both (fits r) (sender_within (word l 3) (sender_of r)) own_fits (sender_of_lem (word l 3) (sender_of r) sender_ok))
