-- For the contract of `sender` alone: a sender's words in fields of the code's widths, whatever they hold. Of the words of a
-- sender within its limits nothing is lost by that: it is what is looked at of the sender (`shown_seen`).
use Rattle.std.specs.Prelude.{◌/◌, ◌%◌, cond}
use Rattle.state.specs.declared.Heard.{Heard}
use Rattle.state.specs.declared.Sender.{Sender}
use Rattle.state.specs.State.{no_message, no_heard}
use Rattle.words.specs.declared.Record.{Record}
use Rattle.words.specs.Words.{half, last_in, message_in, flag}

-- When an alive sender was heard, al_tm_out in four octets.
abbrev pub heard_shown : Record → Heard
heard_shown r = cond (flag r.alive) (record { stamp = r.heard; timeout = r.timeout % half }) no_heard

unfoldable pub shown : Record → Sender
shown r = record {
  address = record { field = record { 0 = r.address / 65536 % 256 }; node = record { 0 = r.address % 65536 } };
  last = last_in r.last;
  «open» = flag r.«open»;
  message = cond (flag r.«open») (message_in r) no_message;
  alive = flag r.alive;
  heard = heard_shown r;
}
