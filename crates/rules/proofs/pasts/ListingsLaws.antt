-- The answers of every listing are those that stand in it. Each law stands in a file with those of its kind, so that a wrong
-- definition is refused in a file of its own. Assumes nothing.
use Rattle.std.specs.Prelude.{◌≡◌, true}
use Rattle.rules.specs.pasts.Listings.{all, Name, the_listing, out_of_range, not_registered, setup_limits, refused_setup, mode_as_given, n1_as_given, lowest_number, message_length, packet_length, piece_length, cut_not_possible, number_check, how_old, unchecked, any_order, twelve_pieces, sixty_four_pieces, two_senders, empty_part, dropped, newcomer_of_one, open_message, came_round, lowest_missing, first_open, sixteen_senders, alive_length, alive_fields, alive_fault, seconds, alive_stamp, dead_by_mode, dead_map, stamp, drop_time, clock_limits, group_setups, group_places, group_tables, group_order, listings}
use Rattle.rules.proofs.pasts.listed.Computing.{kept}
use Rattle.rules.proofs.pasts.listed.SetupsLaws.{setup_limits_kept, refused_setup_kept, mode_as_given_kept, n1_as_given_kept}
use Rattle.rules.proofs.pasts.listed.PacketsLaws.{out_of_range_kept, not_registered_kept, lowest_number_kept, message_length_kept, packet_length_kept, piece_length_kept, cut_not_possible_kept}
use Rattle.rules.proofs.pasts.listed.NumbersLaws.{number_check_kept, how_old_kept, unchecked_kept}
use Rattle.rules.proofs.pasts.listed.JoinsLaws.{the_listing_kept, any_order_kept, twelve_pieces_kept, two_senders_kept, empty_part_kept, lowest_missing_kept, first_open_kept}
use Rattle.rules.proofs.pasts.listed.DropsLaws.{dropped_kept, newcomer_of_one_kept, open_message_kept, came_round_kept}
use Rattle.rules.proofs.pasts.listed.SignalsLaws.{sixteen_senders_kept, alive_length_kept, alive_fields_kept, alive_fault_kept, seconds_kept, alive_stamp_kept, dead_by_mode_kept, dead_map_kept}
use Rattle.rules.proofs.pasts.listed.ClocksLaws.{stamp_kept, drop_time_kept, clock_limits_kept}
use Rattle.rules.proofs.pasts.listed.GroupsLaws.{group_setups_kept, group_places_kept, group_tables_kept, group_order_kept}
use Rattle.rules.proofs.pasts.listed.SixtyFourLaws.{sixty_four_pieces_kept}

pub every_listing : (x : Name) → all (listings x) ≡ true
unfolding kept
every_listing the_listing = the_listing_kept
every_listing out_of_range = out_of_range_kept
every_listing not_registered = not_registered_kept
every_listing setup_limits = setup_limits_kept
every_listing refused_setup = refused_setup_kept
every_listing mode_as_given = mode_as_given_kept
every_listing n1_as_given = n1_as_given_kept
every_listing lowest_number = lowest_number_kept
every_listing message_length = message_length_kept
every_listing packet_length = packet_length_kept
every_listing piece_length = piece_length_kept
every_listing cut_not_possible = cut_not_possible_kept
every_listing number_check = number_check_kept
every_listing how_old = how_old_kept
every_listing unchecked = unchecked_kept
every_listing any_order = any_order_kept
every_listing twelve_pieces = twelve_pieces_kept
every_listing sixty_four_pieces = sixty_four_pieces_kept
every_listing two_senders = two_senders_kept
every_listing empty_part = empty_part_kept
every_listing dropped = dropped_kept
every_listing newcomer_of_one = newcomer_of_one_kept
every_listing open_message = open_message_kept
every_listing came_round = came_round_kept
every_listing lowest_missing = lowest_missing_kept
every_listing first_open = first_open_kept
every_listing sixteen_senders = sixteen_senders_kept
every_listing alive_length = alive_length_kept
every_listing alive_fields = alive_fields_kept
every_listing alive_fault = alive_fault_kept
every_listing seconds = seconds_kept
every_listing alive_stamp = alive_stamp_kept
every_listing dead_by_mode = dead_by_mode_kept
every_listing dead_map = dead_map_kept
every_listing stamp = stamp_kept
every_listing drop_time = drop_time_kept
every_listing clock_limits = clock_limits_kept
every_listing group_setups = group_setups_kept
every_listing group_places = group_places_kept
every_listing group_tables = group_tables_kept
every_listing group_order = group_order_kept
