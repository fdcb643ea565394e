-- Between two setups a run is a past, and so is every part of a run since its last accepted setup. Assumes nothing.
use Rattle.std.specs.Prelude.{ℕ, ◌+◌, ◌*◌, ◌≤◌, ◌<◌, ◌≡◌, refl, false, List, [], ◌∷◌, ◌++◌, eqb, length, take, drop, Option, None, Some, Result, Ok, Err}
use Rattle.std.proofs.Common.{sym, ap, subst, ◌∙◌, arith, take-append-drop, length-append, length-take-le, take_at, drop_at, take_all, get_or-take}
use Rattle.std.proofs.Math.Logic.{⊎_elim}
use Rattle.std.proofs.Math.Seq.{length_front}
use Rattle.octets.specs.Number.{number}
use Rattle.octets.proofs.NumberLaws.{number_ext}
use Rattle.octets.specs.Split.{lt_or_le, true_or_false, cond_case}
use Rattle.state.specs.declared.Receiver.{Receiver}
use Rattle.rules.specs.calls.Message.{area}
use Rattle.rules.specs.calls.Setup.{setup_within, setup_state, setup_answer}
use Rattle.rules.specs.pasts.Past.{World, Event, message, alive, clock, step, after, said, answers}
use Rattle.rules.proofs.pasts.PastLaws.{same_room, same_count}
use Rattle.capture_fields.specs.declared.Kind.{Kind}
use Rattle.capture_fields.specs.declared.Kind.TheVariants as kind
use Rattle.capture_fields.specs.declared.Unread.{Unread}
use Rattle.capture_fields.specs.declared.Unread.TheVariants as unread
use Rattle.capture_fields.specs.declared.Whole.{Whole}
use Rattle.capture_fields.specs.Field.{size_of, head_size, next_of, contents_of, senders_of, setup_of, clock_of}
use Rattle.capture_fields.proofs.FieldLaws.{kind_at, next_bad, next_cut, next_whole, whole_field, contents_more}
use Rattle.capture_lines.specs.declared.Line.{Line}
use Rattle.capture_lines.specs.declared.Line.TheVariants as line
use Rattle.capture_run.specs.declared.Turn.{Turn}
use Rattle.capture_run.specs.Turn.{turn_of, storage_of, turn_by, turn_storage, wanted_by, lent_of}
use Rattle.capture_run.specs.Run.{Held, Fits, lent_in, behind_in, world_in, at_first, read_of, EveryRead, turn_in, left_by, Field, whole, line_at, left_at, ran, printed, calls_in, lines_told, IsPast, BetweenSetups, Begins, AtSetup, BeforeSetup, OfPast, EveryRun, OfRun, IsTurn, EveryTurn}

-- ---- what is lent

abbrev held : Receiver → List ℕ → Held
held state room = record { state = state; room = room }

abbrev world : Receiver → List ℕ → World
world state storage = record { state = state; storage = storage }

-- There is room for all senders, so what is lent is of the right length.
lent_all : (p : Held) → Fits p → lent_in p ≡ p.state.count * area
lent_all p f = omega (arith, f.room_for_four, f.at_most_four)

lent_length : (p : Held) → Fits p → length (world_in p).storage ≡ p.state.count * area
lent_length p f = length-take-le (lent_in p) p.room (omega (arith, f.room_for_four)) ∙ lent_all p f

-- A state with as many senders, and as much storage, in the place of those that were lent.
record InPlace (p : Held) (state : Receiver) (storage : List ℕ) : Type 0 where
  is_world : world_in (held state (storage ++ behind_in p)) ≡ world state storage
  is_behind : behind_in (held state (storage ++ behind_in p)) ≡ behind_in p
  is_fit : Fits (held state (storage ++ behind_in p))

in_place : (p : Held) → Fits p → (state : Receiver) (storage : List ℕ) → state.count ≡ p.state.count → length storage ≡ length (world_in p).storage
    → InPlace p state storage
in_place p f state storage same_count same_length =
    let q = held state (storage ++ behind_in p) in
    let fit : Fits q = record {
      room_for_four = length_front p.room storage (lent_in p) same_length ∙ f.room_for_four;
      at_most_four = omega (arith, same_count, f.at_most_four);
    } in
    let all : length storage ≡ lent_in q = omega (arith, same_count, same_length, lent_length p f, lent_all q fit) in
    record {
      is_world = ap (world state) (take_at storage (behind_in p) (lent_in q) all);
      is_behind = drop_at storage (behind_in p) (lent_in q) all;
      is_fit = fit;
    }

-- ---- a call

-- A field that is the call e.
record IsCall (p : Held) (f : Field) (e : Event) : Type 0 where
  next_world : world_in (left_at p f) ≡ step (world_in p) e
  next_behind : behind_in (left_at p f) ≡ behind_in p
  next_fits : Fits (left_at p f)

is_call : (p : Held) → Fits p → (f : Field) (e : Event) → left_at p f ≡ held (step (world_in p) e).state ((step (world_in p) e).storage ++ behind_in p)
    → length (step (world_in p) e).storage ≡ length (world_in p).storage → IsCall p f e
is_call p fits f e is same_length =
    let w = step (world_in p) e in
    let i = in_place p fits w.state w.storage (same_count (world_in p) e) same_length in
    record {
      next_world = ap world_in is ∙ i.is_world;
      next_behind = ap behind_in is ∙ i.is_behind;
      next_fits = subst Fits (sym is) i.is_fit;
    }

message_call : (p : Held) → Fits p → (c : List ℕ) → IsCall p (whole kind.Message c) (message c)
unfolding step turn_of storage_of
message_call p fits c = is_call p fits (whole kind.Message c) (message c) refl (same_room p.state (world_in p).storage c)

clock_call : (p : Held) → Fits p → (c : List ℕ) → IsCall p (whole kind.Clock c) (clock (clock_of c))
unfolding step turn_of storage_of
clock_call p fits c = is_call p fits (whole kind.Clock c) (clock (clock_of c)) refl refl

alive_call : (p : Held) → Fits p → (c : List ℕ) → IsCall p (whole kind.Alive c) (alive c)
unfolding step turn_of storage_of
alive_call p fits c = is_call p fits (whole kind.Alive c) (alive c) refl refl

-- ---- a setup

-- The room stays as it is.
setup_room : (p : Held) (c : List ℕ) → (left_at p (whole kind.Setup c)).room ≡ p.room
unfolding storage_of
setup_room p c = take-append-drop (lent_in p) p.room

setup_refused : (p : Held) (c : List ℕ) → setup_within (setup_of c) ≡ false → (line_at p (whole kind.Setup c) ≡ line.Setup 10) × (left_at p (whole kind.Setup c) ≡ p)
unfolding turn_of setup_answer
setup_refused p c e =
    let same_state : (left_at p (whole kind.Setup c)).state ≡ p.state = rw e in
    (rw e, ap (λ (x : Receiver). held x (left_at p (whole kind.Setup c)).room) same_state ∙ ap (held p.state) (setup_room p c))

-- "for each of 1 to 4 senders"
senders_four : (n : ℕ) → senders_of n ≤ 4
unfolding senders_of
senders_four n =
    cond_case (λ (k : ℕ). k ≤ 4) (eqb n 10) _ _ (λ _. omega arith) (λ _. cond_case (λ (k : ℕ). k ≤ 4) (eqb n 13) _ _ (λ _. omega arith)
    (λ _. cond_case (λ (k : ℕ). k ≤ 4) (eqb n 16) _ _ (λ _. omega arith) (λ _. cond_case (λ (k : ℕ). k ≤ 4) (eqb n 19) _ _ (λ _. omega arith) (λ _. omega arith))))

setup_four : (c : List ℕ) → (setup_state (setup_of c)).count ≤ 4
unfolding setup_state setup_of
setup_four c = senders_four (length c)

pub at_setup : AtSetup
unfolding turn_of setup_answer
at_setup p f c e =
    let q = left_at p (whole kind.Setup c) in
    let is : q.state ≡ setup_state (setup_of c) = rw e in
    let fits : Fits q = record {
      room_for_four = ap length (setup_room p c) ∙ f.room_for_four;
      at_most_four = subst (λ (x : Receiver). x.count ≤ 4) (sym is) (setup_four c);
    } in (
      rw e,
      record {
        started = record { given = setup_of c; state = is ∙ rw e; room = lent_length q fits };
        same_room = setup_room p c;
        fits = fits;
      },
    )

-- No octets at all are a setup outside its limits.
pub before_setup : BeforeSetup
unfolding setup_answer setup_within setup_of number
before_setup room e =
    let fits : Fits (at_first room) = record { room_for_four = e; at_most_four = omega arith } in
    record { started = record { given = setup_of []; state = refl; room = lent_length (at_first room) fits }; same_room = refl; fits = fits }

-- ---- between two setups

-- The turn of a call, and then others.
module _ (p : Held) (f : Field) (fs : List Field) (e : Event) (i : IsCall p f e) (rest : IsPast (left_at p f) fs) where
  left_then : world_in (ran (left_at p f) fs) ≡ after (step (world_in p) e) (calls_in fs)
  left_then = rest.left ∙ ap (λ (w : World). after w (calls_in fs)) i.next_world

  told_then : printed (left_at p f) fs ≡ lines_told fs (answers (step (world_in p) e) (calls_in fs))
  told_then = rest.told ∙ ap (λ (w : World). lines_told fs (answers w (calls_in fs))) i.next_world

pub between_setups : BetweenSetups
unfolding ran printed calls_in lines_told after answers said turn_of
between_setups p f [] n = record { left = refl; told = refl; stays = refl; fits = f }
between_setups p f (whole kind.Setup c ∷ fs) n =
    let r = setup_refused p c n.0 in
    let rest = between_setups p f fs n.1 in
    record {
      left = ap (λ (x : Held). world_in (ran x fs)) r.1 ∙ rest.left;
      told = ap (λ (x : Line). x ∷ printed (left_at p (whole kind.Setup c)) fs) r.0 ∙ ap (λ (x : Held). line.Setup 10 ∷ printed x fs) r.1
          ∙ ap (λ (x : List Line). line.Setup 10 ∷ x) rest.told;
      stays = ap (λ (x : Held). behind_in (ran x fs)) r.1 ∙ rest.stays;
      fits = subst (λ (x : Held). Fits (ran x fs)) (sym r.1) rest.fits;
    }
between_setups p f (whole kind.Message c ∷ fs) n =
    let i = message_call p f c in
    let rest = between_setups (left_at p (whole kind.Message c)) i.next_fits fs n.1 in
    record {
      left = left_then p (whole kind.Message c) fs (message c) i rest;
      told = ap (λ (x : List Line). line_at p (whole kind.Message c) ∷ x) (told_then p (whole kind.Message c) fs (message c) i rest);
      stays = rest.stays ∙ i.next_behind;
      fits = rest.fits;
    }
between_setups p f (whole kind.Clock c ∷ fs) n =
    let i = clock_call p f c in
    let rest = between_setups (left_at p (whole kind.Clock c)) i.next_fits fs n.1 in
    record {
      left = left_then p (whole kind.Clock c) fs (clock (clock_of c)) i rest;
      told = ap (λ (x : List Line). line_at p (whole kind.Clock c) ∷ x) (told_then p (whole kind.Clock c) fs (clock (clock_of c)) i rest);
      stays = rest.stays ∙ i.next_behind;
      fits = rest.fits;
    }
between_setups p f (whole kind.Alive c ∷ fs) n =
    let i = alive_call p f c in
    let rest = between_setups (left_at p (whole kind.Alive c)) i.next_fits fs n.1 in
    record {
      left = left_then p (whole kind.Alive c) fs (alive c) i rest;
      told = ap (λ (x : List Line). line_at p (whole kind.Alive c) ∷ x) (told_then p (whole kind.Alive c) fs (alive c) i rest);
      stays = rest.stays ∙ i.next_behind;
      fits = rest.fits;
    }

-- ---- the whole run

-- One call more.
after_more : (w : World) (es : List Event) (e : Event) → after w (es ++ e ∷ []) ≡ step (after w es) e
unfolding after
after_more w [] e = refl
after_more w (d ∷ es) e = after_more (step w d) es e

of_start : {p q : Held} → Begins p q → OfPast q
unfolding after
of_start {q = q} b = record { start = world_in q; calls = []; started = b.started; left = refl; fits = b.fits }

of_call : (p : Held) (f : Field) (e : Event) → OfPast p → IsCall p f e → OfPast (left_at p f)
of_call p f e o i = record {
  start = o.start;
  calls = o.calls ++ e ∷ [];
  started = o.started;
  left = i.next_world ∙ ap (λ (w : World). step w e) o.left ∙ sym (after_more o.start o.calls e);
  fits = i.next_fits;
}

of_turn : (p : Held) → OfPast p → (f : Field) → OfPast (left_at p f)
of_turn p o (whole kind.Setup c) =
    ⊎_elim (λ e. of_start (at_setup p o.fits c e).1) (λ e. subst OfPast (sym (setup_refused p c e).1) o) (true_or_false (setup_within (setup_of c)))
of_turn p o (whole kind.Message c) = of_call p (whole kind.Message c) (message c) o (message_call p o.fits c)
of_turn p o (whole kind.Clock c) = of_call p (whole kind.Clock c) (clock (clock_of c)) o (clock_call p o.fits c)
of_turn p o (whole kind.Alive c) = of_call p (whole kind.Alive c) (alive c) o (alive_call p o.fits c)

of_run : (p : Held) → OfPast p → (fs : List Field) → OfPast (ran p fs)
unfolding ran
of_run p o [] = o
of_run p o (f ∷ fs) = of_run (left_at p f) (of_turn p o f) fs

of_first : (room : List ℕ) → length room ≡ 4 * area → OfPast (at_first room)
of_first room e = of_start (before_setup room e)

pub every_run : EveryRun
every_run room e fs = of_run (at_first room) (of_first room e) fs

-- ---- what was read

pub every_turn : EveryTurn
unfolding turn_by turn_storage
every_turn p s t = by (next_of s) refl
  where
    by : (x : Result (Option Whole) Unread) → next_of s ≡ x → turn_in p s ≡ Ok (Some t) → IsTurn p s t
    by (Err why) e on = let no : Err why ≡ Ok (Some t) = sym (rw e) ∙ on in cc
    by (Ok None) e on = let no : Ok None ≡ Ok (Some t) = sym (rw e) ∙ on in cc
    by (Ok (Some f)) e on =
        let c = contents_of s f.size in
        let is : Ok (Some (turn_of p.state (world_in p).storage f.kind c)) ≡ Ok (Some t) = sym (rw e) ∙ on in
        let same : t ≡ turn_of p.state (world_in p).storage f.kind c = cc in
        record { field = f; at_front = e; says = ap (λ (x : Turn). x.line) same; leaves = rw e (ap (λ (x : Turn). held x.state (storage_of p.state (world_in p).storage f.kind c ++ behind_in p)) same) }

-- ---- what a program holds

ran_more : (p : Held) (fs : List Field) (f : Field) → ran p (fs ++ f ∷ []) ≡ left_at (ran p fs) f
unfolding ran
ran_more p [] f = refl
ran_more p (g ∷ fs) f = ran_more (left_at p g) fs f

-- No field, at first.
pub of_none : (room : List ℕ) → length room ≡ 4 * area → OfRun room 0 (at_first room)
unfolding ran
of_none room e = record { room_for_four = e; fields = []; as_many = refl; left = refl }

one_more : {room : List ℕ} {n : ℕ} {p : Held} (f : Field) → OfRun room n p → OfRun room (n + 1) (left_at p f)
one_more {room} f o = record {
  room_for_four = o.room_for_four;
  fields = o.fields ++ f ∷ [];
  as_many = length-append o.fields (f ∷ []) ∙ ap (λ (k : ℕ). k + 1) o.as_many;
  left = ap (λ (x : Held). left_at x f) o.left ∙ sym (ran_more (at_first room) o.fields f);
}

pub run_past : {room : List ℕ} {n : ℕ} {p : Held} → OfRun room n p → OfPast p
run_past {room} o = subst OfPast (sym o.left) (every_run room o.room_for_four o.fields)

-- One turn more, if the run goes on: k octets of the room are lent, the turn is taken, and the octets behind come after
-- what it left.
pub goes_on : (room : List ℕ) (n : ℕ) (p : Held) → OfRun room n p → (k : ℕ) → k ≡ lent_of p.state.count (4 * area)
    → (s : List ℕ) (t : Turn) (storage : List ℕ)
    → Ok (Some t) ≡ turn_by p.state (take k p.room) s (next_of s) → storage ≡ turn_storage p.state (take k p.room) s (next_of s)
    → OfRun room (n + 1) (held t.state (storage ++ drop k p.room))
goes_on room n p o k lent s t storage answer stored =
    let is : k ≡ lent_in p = rw (run_past o).fits.room_for_four lent in
    let took : Ok (Some t) ≡ turn_in p s = answer ∙ ap (λ (j : ℕ). turn_by p.state (take j p.room) s (next_of s)) is in
    let turn = every_turn p s t (sym took) in
    let left : held t.state (storage ++ drop k p.room) ≡ left_by p s t =
    ap (λ (x : List ℕ). held t.state (x ++ drop k p.room)) stored
    ∙ ap (λ (j : ℕ). held t.state (turn_storage p.state (take j p.room) s (next_of s) ++ drop j p.room)) is in
    subst (OfRun room (n + 1)) (sym (left ∙ turn.leaves)) (one_more (whole turn.field.kind (contents_of s turn.field.size)) o)

-- ---- what is read from an input

-- A head has the tag and the length of what begins with it.
head_number : (w at m : ℕ) (s : List ℕ) → at + w ≤ m → number w (take m s) at ≡ number w s at
head_number w at m s h = number_ext w (take m s) s at at (λ k q. get_or-take m s (at + k) 0 (omega (arith, h, q)))

module _ (s : List ℕ) (long : head_size ≤ length s) where
  -- The front of it has the same head, and so the same kind of field.
  same_size : (m : ℕ) → head_size ≤ m → size_of (take m s) ≡ size_of s
  same_size m h = head_number 2 1 m s (omega (arith, h))

  same_kind : (m : ℕ) → head_size ≤ m → kind_at (take m s) ≡ kind_at s
  same_kind m h = rw (head_number 1 0 m s (omega (arith, h)), same_size m h)

  head_long : length (take head_size s) ≡ head_size
  head_long = length-take-le head_size s long

  -- the front of it, where it is bad, cut, or whole
  bad_at : (m : ℕ) → head_size ≤ m → head_size ≤ length (take m s) → kind_at s ≡ None → next_of (take m s) ≡ Err unread.Bad
  bad_at m h l e = next_bad (take m s) l (same_kind m h ∙ e)

  module _ (k : Kind) (is : kind_at s ≡ Some k) where
    cut_at : (m : ℕ) → head_size ≤ m → head_size ≤ length (take m s) → length (take m s) < head_size + size_of s → next_of (take m s) ≡ Err unread.Cut
    cut_at m h l c = next_cut (take m s) l k (same_kind m h ∙ is) (omega (arith, same_size m h, c))

    whole_at : (m : ℕ) → head_size ≤ m → head_size ≤ length (take m s) → head_size + size_of s ≤ length (take m s)
        → next_of (take m s) ≡ Ok (Some (record { kind = k; size = size_of s }))
    whole_at m h l c =
        next_whole (take m s) l k (same_kind m h ∙ is) (omega (arith, same_size m h, c)) ∙ ap (λ (n : ℕ). Ok (Some (record { kind = k; size = n }))) (same_size m h)

    wanted_good : wanted_by (take head_size s) (next_of (take head_size s)) ≡ size_of s
    unfolding wanted_by
    wanted_good = ⊎_elim
        (λ (some : 0 < size_of s). rw (cut_at head_size (omega arith) (omega (arith, head_long)) (omega (arith, head_long, some)), head_long) (same_size head_size (omega arith)))
        (λ (none : size_of s ≤ 0). rw (whole_at head_size (omega arith) (omega (arith, head_long)) (omega (arith, head_long, none))) (omega (arith, none)))
        (lt_or_le 0 (size_of s))

    -- All of it is read, or its length and its head are known and all that it wants is read.
    next_good : next_of (read_of s) ≡ next_of s
    next_good = rw wanted_good (⊎_elim
        (λ (less : length s < head_size + size_of s). ap next_of (take_all (head_size + size_of s) s (omega (arith, less))))
        (λ (more : head_size + size_of s ≤ length s).
        let all = length-take-le (head_size + size_of s) s more in
        whole_at (head_size + size_of s) (omega arith) (omega (arith, all)) (omega (arith, all)) ∙ sym (next_whole s long k is more))
        (lt_or_le (length s) (head_size + size_of s)))

  wanted_bad : kind_at s ≡ None → wanted_by (take head_size s) (next_of (take head_size s)) ≡ 0
  unfolding wanted_by
  wanted_bad e = rw (bad_at head_size (omega arith) (omega (arith, head_long)) e)

  next_long : next_of (read_of s) ≡ next_of s
  next_long = by (kind_at s) refl
    where
      by : (o : Option Kind) → kind_at s ≡ o → next_of (read_of s) ≡ next_of s
      by None e = rw (wanted_bad e) (bad_at head_size (omega arith) (omega (arith, head_long)) e ∙ sym (next_bad s long e))
      by (Some k) e = next_good k e

next_read : (s : List ℕ) → next_of (read_of s) ≡ next_of s
next_read s = ⊎_elim
    (λ (less : length s < head_size). ap next_of (take_all (head_size + wanted_by (take head_size s) (next_of (take head_size s))) s (omega (arith, less))))
    (next_long s)
    (lt_or_le (length s) head_size)

pub every_read : EveryRead
every_read s =
    let m = head_size + wanted_by (take head_size s) (next_of (take head_size s)) in
    record {
      same_next = next_read s;
      same_contents = λ f e. sym (contents_more (read_of s) (drop m s) f (next_read s ∙ e)) ∙ ap (λ (x : List ℕ). contents_of x f.size) (take-append-drop m s);
      all_of_it = λ f e.
          let i = whole_field s f e in
          let there : head_size + size_of s ≤ length s = omega (arith, i.all_there, i.its_size) in
          rw (wanted_good s (omega (arith, there)) f.kind i.its_kind) (length-take-le (head_size + size_of s) s there ∙ omega (arith, i.its_size));
    }
