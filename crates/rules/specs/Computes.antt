-- One name that opens every rule, for a theorem that computes.
use Rattle.std.specs.Float.Ieee.{add, sub, mul, div, neg, lt, le, eq, of_int, to_unsigned, to_bits, of_bits}
use mathlib.Core.List.{filter_map}
use Rattle.binary64.specs.Values.{same_value}
use Rattle.binary64.specs.Counts.{is_count, told, count_of}
use Rattle.kernels.specs.Channels.{sum_to, up_to}
use Rattle.feature.specs.Summaries.{slots_of, blank}
use Rattle.feature.specs.Steps.{deviated, pushed, blended, merged}
use Rattle.distance.specs.Distances.{squared_gap, gap_of, ssd_of, to_row, increase_of, to_summary, point_of, between_of, merge_cost}
use Rattle.head.specs.Heads.{new_counters, new_head, feature_at, distance_at, settings_of, with_counters}
use Rattle.head.specs.Limits.{within, sizes_within, choices_within, threshold_within, allowed}
use Rattle.head.specs.Sizes.{node_cap, entry_cap, slot_width, block_width, floats_needed, links_needed, scratch_floats_needed, scratch_links_needed}
use Rattle.head.specs.Refusals.{number_of_condition, number_of, values_of}
use Rattle.rules.specs.Lists.{change_at, snoc, keep, every, concat, table, rows_of, flip, count_up, up_from, occurs}
use Rattle.rules.specs.Tree.{blank_node, node_at, entry_at, child, cap, with_nodes, with_entries, with_root, on_running, summed, with_list, adding, under, fresh, row_count}
use Rattle.rules.specs.Descent.{closer, nearest, closest, descended, leaf_for, better, searching, searched, climbed, along_path}
use Rattle.rules.specs.Split.{farther, seeds_with, seeds_from, to_first, side, plus_if, sides, sides_by, stays, gathered, adopted, half, parted, split, crowned, fitting, split_next, split_if, split_up, split_from}
use Rattle.rules.specs.Insert.{begun, absorbed, absorbs, absorbed_or_begun, placed, grown_at, grown}
use Rattle.rules.specs.Pairs.{cost_of, cheaper, partner, pair_of, partners, siblings, all_leaves, beneath, cousins, sort_in, sorted}
use Rattle.rules.specs.Reinsert.{collected, cleared, replaced, replaced_all, reinserted}
use Rattle.rules.specs.Refold.{fold_balanced, refold_one, preorder, refold_all, refolded}
use Rattle.rules.specs.Rebuild.{target, widened, merge_one, both_alive, mergeable, merge_all, grown_threshold, renumber, number_if, keep_numbers, pruned, dropped, with_merges, pairs_from, none_near, across, rebalanced, compacted, counted, rebuilt, merges_on, one_more}
use Rattle.rules.specs.Route.{greedy}
use Rattle.rules.specs.Spread.{spread_of}
use Rattle.rules.specs.Refit.{poured, reaccumulated, used, hollow, any_hollow, enough, refit_rounds, refitted}
use Rattle.rules.specs.Check.{sized, orphan, rooted, known, list_fits, next_level, levels_from, levels, once_each, names, own_list, leaf_lists, linked, lone_root, filled, same_kind, growing, level, total_of, weighs, weighed, merged_below, lowest, conditions, checked}
use Rattle.rules.specs.Slices.{stretch, filled_to, eight, summary_in, summary_out, parent_in, parent_out, leaf_in, length_in, kind_out, node_in, block_out, slot_at, block_at, tree_of, counters_of, floats_of, links_of}
use Rattle.rules.specs.Calls.{unless, answer_of, settings_refusal, room_refusal, tree_refusal, row_shape_refusal, batch_shape_refusal, empty_refusal, insert_full_refusal, refit_full_refusal, output_refusal, lent_tree, tree_refusals, change_refusals, fronted, changed, settle, made_by, create_refusals, created, row_asked, rows_asked, batch_asked, refit_asked, route_asked, spread_asked, row_refusals, batch_refusals, refit_refusals, route_refusals, spread_refusals, row_inserted, batch_inserted, batch_refitted, write, routed, spread_written, validated, shown_by, entries_shown}
use Rattle.rules.specs.Listing.{bytes, same, cut, lines_of, fields_of, and_then, fields_in, digit, hex_digit, number_from, decimal, hex_float, hex_floats, word_at, feature_word, distance_word, taken, head_from, first_line, row_in, line_in, digits_of, places_of, decimal_of, hex_of, line_of, entry_line, entry_lines, report, bad_line, rows_listed, lines_listed, rowlist}
use Rattle.rules.specs.Histories.{bits, floats, summary, summary_seen, parent_seen, node_seen, tree_seen, refusal_seen, change, look, step, answers}
use Rattle.head.specs.Counting.{new_running, with_threshold, with_rebuilds, with_merged}
use Rattle.rules.specs.Rows.{inserted, inserted_all}

unfoldable pub computes : Unit {0}
unfolding add sub mul div neg lt le eq of_int to_unsigned to_bits of_bits filter_map same_value is_count told count_of sum_to up_to slots_of blank deviated pushed blended merged squared_gap gap_of ssd_of to_row increase_of to_summary point_of between_of merge_cost new_running with_threshold with_rebuilds with_merged new_counters new_head feature_at distance_at settings_of with_counters within sizes_within choices_within threshold_within allowed node_cap entry_cap slot_width block_width floats_needed links_needed scratch_floats_needed scratch_links_needed number_of_condition number_of values_of change_at snoc keep every concat table rows_of flip count_up up_from occurs blank_node node_at entry_at child cap with_nodes with_entries with_root on_running summed with_list adding under fresh closer nearest closest descended leaf_for better searching searched climbed along_path farther seeds_with seeds_from to_first side plus_if sides sides_by stays gathered adopted half parted split crowned fitting split_next split_if split_up split_from begun absorbed absorbs absorbed_or_begun placed grown_at grown cost_of cheaper partner pair_of partners siblings all_leaves beneath cousins sort_in sorted collected cleared replaced replaced_all reinserted fold_balanced refold_one preorder refold_all refolded target widened merge_one both_alive mergeable merge_all grown_threshold renumber number_if keep_numbers pruned dropped merges_on with_merges pairs_from none_near across rebalanced compacted one_more counted rebuilt inserted inserted_all greedy poured reaccumulated used hollow any_hollow enough refit_rounds refitted spread_of sized orphan rooted known list_fits next_level levels_from levels once_each names own_list leaf_lists linked lone_root filled same_kind growing level row_count total_of weighs weighed merged_below lowest conditions checked stretch filled_to eight summary_in summary_out parent_in parent_out leaf_in length_in kind_out node_in block_out slot_at block_at tree_of counters_of floats_of links_of unless answer_of settings_refusal room_refusal tree_refusal row_shape_refusal batch_shape_refusal empty_refusal insert_full_refusal refit_full_refusal output_refusal lent_tree tree_refusals change_refusals fronted changed settle made_by create_refusals created row_asked rows_asked batch_asked refit_asked route_asked spread_asked row_refusals batch_refusals refit_refusals route_refusals spread_refusals row_inserted batch_inserted batch_refitted write routed spread_written validated shown_by entries_shown bytes same cut lines_of fields_of and_then fields_in digit hex_digit number_from decimal hex_float hex_floats word_at feature_word distance_word taken head_from first_line row_in line_in digits_of places_of decimal_of hex_of line_of entry_line entry_lines report bad_line rows_listed lines_listed rowlist bits floats summary summary_seen parent_seen node_seen tree_seen refusal_seen change look step answers
computes = tt
