-- What ages one sender's words ages the sender. Assumes nothing.
use Rattle.std.specs.Prelude.{ℕ, ◌≡◌, refl, Bool, true, false, not, ◌&&◌, ◌||◌, leb, ltb}
use Rattle.std.proofs.Math.Bool.{and-true, and-false}
use Rattle.octets.specs.Split.{and_left, and_right}
use Rattle.rules.specs.calls.Clock.{drops, dies, dropped_if, dead_if, aged}
use Rattle.words.specs.declared.Record.{Record}
use Rattle.words.specs.Words.{half, flag, sender_of, fits}
use Rattle.board_clock.specs.private.Aged.{aged_by}

aged_both : (r : Record) (drop die : Bool) → sender_of (aged_by r drop die) ≡ dead_if die (dropped_if drop (sender_of r))
unfolding aged_by
aged_both r true true = rw (and-false (flag r.«open»), and-false (flag r.alive))
aged_both r true false = rw (and-false (flag r.«open»), and-true (flag r.alive))
aged_both r false true = rw (and-true (flag r.«open»), and-false (flag r.alive))
aged_both r false false = rw (and-true (flag r.«open»), and-true (flag r.alive))

pub aged_there : (r : Record) (t ms : ℕ) → sender_of (aged_by r (drops t ms (sender_of r)) (dies ms (sender_of r))) ≡ aged t ms (sender_of r)
unfolding aged
aged_there r t ms = aged_both r (drops t ms (sender_of r)) (dies ms (sender_of r))

pub aged_fits : (r : Record) (drop die : Bool) → fits r ≡ true → fits (aged_by r drop die) ≡ true
unfolding aged_by fits
aged_fits r true true e = refl
aged_fits r true false e =
    let flags = and_left (leb r.«open» 1 && leb r.alive 1) (not (flag r.alive) || ltb r.timeout half) e in
    rw (and_right (leb r.«open» 1) (leb r.alive 1) flags) (and_right (leb r.«open» 1 && leb r.alive 1) (not (flag r.alive) || ltb r.timeout half) e)
aged_fits r false true e =
    let flags = and_left (leb r.«open» 1 && leb r.alive 1) (not (flag r.alive) || ltb r.timeout half) e in
    rw (and_left (leb r.«open» 1) (leb r.alive 1) flags)
aged_fits r false false e = e
