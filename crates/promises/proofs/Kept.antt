-- The demands are kept: every statement of Demands.antt, proved. Assumes nothing.
use Rattle.ring.specs.Edges as newer_edges
use Rattle.ring.proofs.PrintedLaws as ring
use Rattle.header.proofs.PrintedLaws as header
use Rattle.cut.specs.Edges as edges
use Rattle.cut.proofs.PrintedLaws as cut
use Rattle.fault.specs.Edges as fault_edges
use Rattle.rules.proofs.pasts.ListingsLaws as listings
use Rattle.promises.proofs.AsPrintedLaws as printed
use Rattle.promises.proofs.BoardLaws as board
use Rattle.promises.proofs.ComesBackLaws as comes_back
use Rattle.promises.proofs.CountedLaws as counted
use Rattle.promises.proofs.CourseLaws as course
use Rattle.promises.specs.Demands.{Demands}
use Rattle.promises.proofs.DemandsLaws as laws
use Rattle.promises.proofs.FaultLaws as fault
use Rattle.promises.proofs.GroupLaws as group

pub kept : Demands
kept = record {
  calls_refuse = laws.calls_refuse;
  setup_refuses = laws.setup_refuses_all;
  cutter_refuses = laws.cutter_refuses_all;
  numbers_tell = laws.numbers_tell;
  verdict_told = laws.verdict_told;
  none_handed = laws.none_handed;
  never_nine = laws.never_nine;
  tallied_is_course = counted.tallied_is_course;
  one_counted = counted.one_counted;
  all_counted = counted.all_counted;
  board_begins = board.board_begins;
  board_is_course = board.board_is_course;
  every_said = laws.every_said;
  log_is = laws.log_fixed;
  header_printed = header.header_as_printed;
  check_printed = ring.check_as_printed;
  cuts_printed = cut.cuts_as_printed;
  cutting_printed = printed.cutting_as_printed;
  possible_printed = cut.possible_as_printed;
  comes_back = comes_back.comes_back;
  alive_is = laws.alive_is;
  delivers = laws.delivers;
  listed_once = laws.listed_once;
  is_safe = laws.is_safe;
  held_said = laws.held_said;
  held_is_ones = laws.held_is_ones;
  differ_meets_nine = laws.differ_meets_nine;
  read_refuses = fault.read_refuses;
  write_refuses = fault.write_refuses;
  reads_exactly = fault.reads_exactly;
  reads_all = fault.reads_all;
  writes_sections = fault.writes_sections;
  writes_all = fault.writes_all;
  writes_same = fault.writes_same;
  none_short = fault.none_short;
  every_fault_edge = fault_edges.every_edge;
  newer_printed = ring.newer_as_printed;
  newcomer_said = laws.newcomer_said;
  every_newer_edge = newer_edges.every_edge;
  own_entry_only = group.own_entry_only;
  entry_is_last = group.entry_is_last;
  zeros_pass = group.zeros_pass;
  never_twenty_six = group.never_twenty_six;
  cast_said = group.cast_said;
  group_delivers = group.group_delivers;
  cut_to_group = group.cut_to_group;
  age_said = laws.age_said;
  age_heard = group.age_heard;
  one_reading = fault.one_reading;
  one_writing = fault.one_writing;
  one_course = course.same_course;
  one_start = course.same_start;
  one_cutting = course.same_cutting;
  every_edge = edges.every_edge;
  every_listing = listings.every_listing;
}
