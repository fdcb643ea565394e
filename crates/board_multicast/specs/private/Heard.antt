-- For private functions' contracts alone: what the multicast call looks at, as the words have it.
use Rattle.std.specs.Prelude.{ℕ, ◌%◌, List}
use Rattle.state.specs.declared.Look.{Look}
use Rattle.answers.specs.declared.Listener.{Listener}
use Rattle.words.specs.Words.{word, flag, groups_in}

-- Settings that their octets hold; others are outside their limits.
abbrev pub listener_in : List ℕ → Look → Listener
listener_in l k = record {
  valid = k.valid;
  test = flag (word l 0);
  n1 = word l 1 % 65536;
  count = word l 4 % 256;
  at = k.at;
  groups = groups_in (word l 5 % 256) (word l 6);
}
