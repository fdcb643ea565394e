-- Laws of the alive call: the answer by what the code has in its locals. Assumes nothing.
use Rattle.std.specs.Prelude.{◌≡◌, Bool, true, false, not, List, ℕ, ◌<◌, leb, length, Ok, Err}
use Rattle.std.proofs.Math.Path.{sym}
use Rattle.std.proofs.Common.{ap, ◌∙◌, arith}
use Rattle.std.proofs.Math.Logic.{⊎_elim}
use borrow.Author.Tests.{leb-false, not-false}
use Rattle.octets.specs.Split.{true_or_false}
use Rattle.refusal.specs.declared.Refusal.{Refusal}
use Rattle.refusal.specs.declared.Refusal.TheVariants as refusals
use Rattle.header.specs.declared.Head.{Head}
use Rattle.signal.specs.declared.Body.{Body}
use Rattle.signal.specs.Alive.{body_of}
use Rattle.header.specs.Head.{head_of}
use Rattle.state.specs.declared.Address.{Address}
use Rattle.state.specs.declared.Look.{Look}
use Rattle.state.specs.declared.Receiver.{Receiver}
use Rattle.rules.specs.calls.Alive.{alive_length_wrong, alive_head_within, alive_within, fault_within, signal_rows, alive_rows, noted, not_noted, alive_answer}
use Rattle.rules.specs.calls.First.{Row, checked, first}
use Rattle.rules.proofs.calls.FirstLaws.{none_checked, checked_here, first_none}
use Rattle.state.specs.Limits.{valid}
use Rattle.state.specs.State.{senders_most}
use Rattle.state.proofs.LimitsLaws.{valid_count}
use Rattle.state.specs.Table.{source, found, look_at}
use Rattle.state.proofs.TableLaws.{look_valid, look_place}

-- What is known where none of 9, 12, 13, 14, 22 and 24 applies.
pub record Heeded (ok : Bool) (count i : ℕ) (packet : List ℕ) (h : Head) (b : Body) : Type 0 where
  pub is_valid : ok ≡ true
  pub length_right : alive_length_wrong (length packet) h ≡ false
  pub head_within_lem : alive_head_within packet h ≡ true
  pub registered : i < count
  pub within : alive_within (length packet) h b ≡ true
  pub fault_within_lem : fault_within packet ≡ true

pub signal_facts : (ok : Bool) (count i : ℕ) (packet : List ℕ) (h : Head) (b : Body) → first (signal_rows ok count i packet h b) ≡ 0 → Heeded ok count i packet h b
signal_facts ok count i packet h b e =
    let r9 = first_none _ (not ok) _ e in
    let r12 = first_none _ (alive_length_wrong (length packet) h) _ r9.1 in
    let r13 = first_none _ (not (alive_head_within packet h)) _ r12.1 in
    let r14 = first_none _ (leb count i) _ r13.1 in
    let r22 = first_none _ (not (alive_within (length packet) h b)) _ r14.1 in
    let r24 = first_none _ (not (fault_within packet)) _ r22.1 in
    record {
      is_valid = not-false ok r9.0;
      length_right = r12.0;
      head_within_lem = not-false (alive_head_within packet h) r13.0;
      registered = leb-false count i r14.0;
      within = not-false (alive_within (length packet) h b) r22.0;
      fault_within_lem = not-false (fault_within packet) r24.0;
    }

pub alive_facts : (w : Receiver) (packet : List ℕ) → first (alive_rows w packet) ≡ 0
    → Heeded (valid w) w.count (found w (head_of packet)) packet (head_of packet) (body_of packet)
unfolding alive_rows
alive_facts w packet = signal_facts (valid w) w.count (found w (head_of packet)) packet (head_of packet) (body_of packet)

-- The code has the header h, the alive header b, the source a, and what one pass over the table found, l.
module _ (w : Receiver) (packet : List ℕ) (h : Head) (b : Body) (a : Address) (l : Look) (eh : h ≡ head_of packet) (eb : b ≡ body_of packet) (ea : a ≡ source h) (el : l ≡ look_at w a) where
  abbrev Rows : List Row
  Rows = signal_rows l.valid w.count l.at packet h b

  look_is : l ≡ look_at w (source (head_of packet))
  look_is = el ∙ ap (look_at w) (ea ∙ ap source eh)

  check_is : checked Rows ≡ checked (alive_rows w packet)
  unfolding alive_rows
  check_is = ⊎_elim
      (λ (v : l.valid ≡ true). rw (eh, eb, look_place w (head_of packet) l look_is v, look_valid w a l el))
      (λ (v : l.valid ≡ false).
      checked_here refusals.State (not l.valid) _ (rw v)
      ∙ sym (checked_here refusals.State (not (valid w)) _ (rw (sym (look_valid w a l el) ∙ v))))
      (true_or_false l.valid)

  pub signal_refused : (r : Refusal) → checked Rows ≡ Err r → not_noted w r ≡ alive_answer w packet
  unfolding alive_answer
  signal_refused r e = rw (← check_is, e)

  -- Nothing is refused.
  module _ (none : checked Rows ≡ Ok tt) where
    facts : Heeded l.valid w.count l.at packet h b
    facts = signal_facts l.valid w.count l.at packet h b (none_checked Rows none)

    -- The place is one of the table's.
    pub signal_place : l.at < senders_most
    signal_place = omega (arith, facts.registered, valid_count w (sym (look_valid w a l el) ∙ facts.is_valid))

    pub signal_noted : noted w l.at b ≡ alive_answer w packet
    unfolding alive_answer
    signal_noted = rw (← check_is, none, eb, look_place w (head_of packet) l look_is facts.is_valid)
