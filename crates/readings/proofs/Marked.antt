-- The theorem `marked`: document 01's marked readings and edges, all of them, the edges of document 02's 11 to 15, an elongation sheet, two
-- members by two gauges and members of two paths. Each is computed from the definitions, unfolded down to arithmetic, but for the drop at
-- the jack, which is found by its two squares. Assumes nothing.
use Prim.Native.Nat.{◌+◌, ◌-◌, ◌*◌}
use mathlib.Core.Path.{◌≡◌, refl, sym}
use mathlib.Core.List.{[], ◌∷◌}
use native.Mathlib.Nat.{le_of_eq}
use borrow.Author.Tests.{le-leb}
use lib.Dec.{leb→le, lit≤}
use lib.ListN.{get_or}
use Rattle.formulas.proofs.Drop.{one_drop}
use lib.Ieee.{round, to_bits}
use Rattle.ticks.specs.Doubles.{ticks_of, whole_of, magnitude, one}
use Rattle.logarithm.specs.Logarithm.{logarithm}
use Rattle.coefficient.specs.Coefficients.{scf, ssf, mcf, ucr, ush, creep_share, shrinkage_share}
use Rattle.fields.specs.Outcomes.{numbers_in}
use Rattle.line.specs.Lines.{digits_of, spaces_in}
use Rattle.card.specs.Card.{card_outcome}
use Rattle.list.specs.Lists.{amounts_by, counts_in, list_outcome}
use Rattle.fields.specs.Quantities.{parts_from, quantities_of}
use Rattle.exponential.specs.Factor.{factor}
use Rattle.member.specs.Constants.{path_friction, path_length}
use Rattle.formulas.specs.Steps.{drop_at_jack}
use Rattle.checks.specs.Rows.{checked, codes, ranges, hours, segment_codes, ranges_of_segments, ranges_of_moments, hours_of_ages}
use Rattle.member.specs.Member.{checked_of}
use Rattle.stages.specs.Run.{member_result}
use Rattle.elongation.specs.Sheet.{elongations_from, sum_of, sheet_result}
use Rattle.text.specs.Columns.{first_columns}
use Rattle.text.specs.Text.{ages_text, elongations_text, text_of}
use Rattle.readings.specs.Readings.{Marked, with_anchor_set, sample_lines, sample_counts, lines_of, fields_of, hourly, number_and_place}
use Rattle.readings.specs.Readings.{result_of_card, with_ages, double0153, half_apart}

-- what opens every definition that a reading is computed by, but the drop at the jack
unfoldable computed : Unit {0}
unfolding first_columns ages_text elongations_text text_of lines_of fields_of hourly card_outcome digits_of spaces_in round to_bits
    list_outcome counts_in amounts_by whole_of ticks_of magnitude numbers_in parts_from checked_of checked codes ranges hours segment_codes
    ranges_of_segments ranges_of_moments hours_of_ages member_result logarithm scf ssf mcf ucr ush creep_share shrinkage_share path_friction
    path_length factor sheet_result elongations_from sum_of
computed = tt

-- in a declaration of its own: with a wrong limit the card of one age more would run too, and one may not take the steps of both
most_ages : number_and_place (result_of_card (with_ages 48)) ≡ 0 ∷ 0 ∷ []
unfolding computed
most_ages = refl

drop : drop_at_jack 24566 29479201 1 102400 ≡ 49132
drop = sym (one_drop 24566 29479201 1 102400 (lit≤ tt) 49132 (record { covered = refl; next_not_covered = refl }))

slip_reaches : number_and_place (result_of_card (with_anchor_set 102400)) ≡ 0 ∷ 0 ∷ []
unfolding computed
slip_reaches = rw drop refl

slip_beyond : number_and_place (result_of_card (with_anchor_set 102399)) ≡ 12 ∷ 7 ∷ []
unfolding computed
slip_beyond = rw drop refl

-- with the drop at the jack opened for slips of 0, where it is 0 at once
pub marked : Marked
unfolding computed drop_at_jack
marked = record {
  sample_fields = refl;
  sample_ages = refl;
  sample_result = refl;
  sample_printed = refl;
  sample_as_list = refl;
  L1 = refl;
  L2 = refl;
  L9 = refl;
  L10 = refl;
  L18 = refl;
  L720 = refl;
  scf_2560 = refl;
  scf_thousandths = refl;
  mcf_96 = refl;
  creep_36 = λ life. refl;
  double_156 = refl;
  double_above = leb→le (153 * one) (1000 * (magnitude double0153 + half_apart)) tt;
  double_below = leb→le (1000 * magnitude double0153) (153 * one + 1000 * half_apart) tt;
  parabola_X = refl;
  surface_1024 = refl;
  surface_1023 = refl;
  X_25165824 = refl;
  X_25165824_passes = refl;
  X_25165825 = refl;
  X_25165825_refused = refl;
  ages_48 = most_ages;
  ages_49 = refl;
  ages_48_as_list = refl;
  ages_49_as_list = refl;
  gain_reaches = refl;
  gain_reaches_passes = refl;
  gain_above = refl;
  gain_above_refused = refl;
  no_friction = refl;
  no_length = refl;
  tick_of_each = refl;
  drop_49132 = drop;
  slip_reaches_passes = slip_reaches;
  slip_beyond_refused = slip_beyond;
  slip_beyond_keeps_scratch = refl;
  sheet_printed = refl;
  mean_unrounded = refl;
  sheet_refused_with_4 = refl;
  sheet_refused_with_13 = refl;
  gauges = record {
    one_read = refl;
    other_read = refl;
    gauges = record {
      common = record {
        field = λ number. get_or (fields_of sample_lines) (number - 1) 0;
        path = [];
        second_path = [];
        ages = (quantities_of sample_counts (fields_of sample_lines)).ages;
      };
      one_is = refl;
      other_is = refl;
      over_the_tendon = record { first = refl; second = refl };
    };
  };
  gauges_pass = refl;
  second_goes_on = refl;
  first_goes_on = refl;
  first_if_equal = λ first second equal. rw (le-leb second.stress first.stress (le_of_eq (sym equal))) refl;
  twelve_of_first = λ m path second refused. rw refused refl;
  twelve_of_second = λ m path second slip given refused. rw (given, refused) refl;
  seven_of_one = λ m path refusal refused. rw refused refl;
  path_refused_with_4 = refl;
  second_refused_with_14 = refl;
  second_refused_with_4 = refl;
  foot_more = refl;
  past_a_foot_more = refl;
  foot_less = refl;
  past_a_foot_less = refl;
  sheet_of_first = refl;
}
