-- For private functions' contracts alone: one sender's words with its message dropped, and dead.
use Rattle.std.specs.Prelude.{ℕ, Bool, cond}
use Rattle.words.specs.declared.Record.{Record}

abbrev gone : Bool → ℕ → ℕ
gone b x = cond b 0 x

unfoldable pub aged_by : Record → Bool → Bool → Record
aged_by r drop die = record {
  address = r.address;
  last = r.last;
  «open» = gone drop r.«open»;
  message = gone drop r.message;
  cut = gone drop r.cut;
  map = gone drop r.map;
  stamp = gone drop r.stamp;
  alive = gone die r.alive;
  heard = gone die r.heard;
  timeout = gone die r.timeout;
}
