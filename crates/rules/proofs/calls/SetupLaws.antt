-- What an accepted setup was given. Assumes nothing.
use Rattle.std.specs.Prelude.{◌≤◌, ◌≡◌, true, ◌&&◌, leb}
use Rattle.std.proofs.Common.{leb-true}
use Rattle.octets.specs.Split.{and_left, and_right}
use Rattle.header.specs.Codes.{within}
use Rattle.groups.specs.Groups.{groups_within}
use Rattle.answers.specs.declared.Setup.{Setup}
use Rattle.state.specs.Limits.{is_n1, is_drop_time, addresses_within}
use Rattle.state.specs.State.{senders_most}
use Rattle.rules.specs.calls.Setup.{setup_within}

pub record SetupWithin (q : Setup) : Type 0 where
  pub mode : q.mode ≤ 1
  pub n1 : is_n1 q.n1 ≡ true
  pub n1_some : 1 ≤ q.n1
  pub t : is_drop_time q.t ≡ true
  pub groups : groups_within q.groups ≡ true
  pub count_some : 1 ≤ q.count
  pub count : q.count ≤ senders_most
  pub addresses : addresses_within q.senders q.count ≡ true

pub setup_facts : (q : Setup) → setup_within q ≡ true → SetupWithin q
unfolding setup_within
setup_facts q e =
    let mode = leb q.mode 1 in
    let n1 = is_n1 q.n1 in
    let t = is_drop_time q.t in
    let groups = groups_within q.groups in
    let count = within 1 senders_most q.count in
    let addresses = addresses_within q.senders q.count in
    let five = and_left (mode && n1 && t && groups && count) addresses e in
    let four = and_left (mode && n1 && t && groups) count five in
    let three = and_left (mode && n1 && t) groups four in
    let two = and_left (mode && n1) t three in
    record {
      mode = leb-true q.mode 1 (and_left mode n1 two);
      n1 = and_right mode n1 two;
      n1_some = leb-true 1 q.n1 (and_left (leb 1 q.n1) (leb q.n1 1024) (and_right mode n1 two));
      t = and_right (mode && n1) t three;
      groups = and_right (mode && n1 && t) groups four;
      count_some = leb-true 1 q.count (and_left (leb 1 q.count) (leb q.count senders_most) (and_right (mode && n1 && t && groups) count five));
      count = leb-true q.count senders_most (and_right (leb 1 q.count) (leb q.count senders_most) (and_right (mode && n1 && t && groups) count five));
      addresses = and_right (mode && n1 && t && groups && count) addresses e;
    }

pub setup_count : (q : Setup) → setup_within q ≡ true → q.count ≤ senders_most
setup_count q e = (setup_facts q e).count
