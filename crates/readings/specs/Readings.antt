-- The theorem `marked` rests on it. The readings that document 01 marks ★, and its edges, in the order of its "Sample beam"; the edges of
-- document 02's 11 to 15, the elongation sheet of document 002's example 1, two members whose gauges differ by a psi, and members of two
-- paths: one list of what the definitions of the other crates give, to be held beside the papers.
use Rattle.std.specs.Prelude.{ℕ, zero, suc, ◌+◌, ◌-◌, ◌*◌, ◌/◌, ◌^◌, ◌≤◌, true, false, List, [], ◌∷◌, ◌++◌, map, ◌≡◌, Float}
use Rattle.std.specs.Prelude.{Some, Ok, Err}
use Rattle.std.specs.Float.{binary64}
use Rattle.std.specs.Float.Ieee.{round}
use Rattle.ticks.specs.Doubles.{ticks_of, magnitude, one}
use Rattle.logarithm.specs.Logarithm.{logarithm}
use Rattle.coefficient.specs.declared.codes.Cure.{Cure}
use Rattle.coefficient.specs.declared.clocks.HoursSinceTransfer.{HoursSinceTransfer}
use Rattle.coefficient.specs.Coefficients.{scf, mcf, creep_share}
use Rattle.fields.specs.Limits.{most_ages, report_room, scratch_room}
use Rattle.fields.specs.Outcomes.{accepted, OrRefusal}
use Rattle.card.specs.Card.{card_outcome}
use Rattle.list.specs.Lists.{list_outcome}
use Rattle.fields.specs.declared.read.Counts.{Counts}
use Rattle.fields.specs.declared.segments.Segment.{Segment}
use Rattle.fields.specs.declared.segments.Age.{Age}
use Rattle.fields.specs.Quantities.{Quantities, parabola, quantities_of, quantities_read}
use Rattle.fields.specs.declared.refusal.Refusal.{Refusal}
use Rattle.fields.specs.Refusals.{number, place, may_alter_scratch}
use Rattle.formulas.specs.Steps.{friction_loss, dies_out, drop_at_jack}
use Rattle.member.specs.Constants.{path_friction, friction_of}
use Rattle.member.specs.declared.Member.{Member}
use Rattle.member.specs.declared.path.Path.{Path}
use Rattle.member.specs.Member.{member_of}
use Rattle.stages.specs.declared.before.BeforeAges.{BeforeAges}
use Rattle.stages.specs.declared.intervals.Row.{Row}
use Rattle.stages.specs.declared.path.Seated.{Seated}
use Rattle.stages.specs.Run.{after, before_ages, jacked, friction_along, slip_along, larger, seated_alone, seated_both}
use Rattle.stages.specs.Run.{begun_of, end_at, transfer_end, losses_between, together, gain_between, Report, result_read}
use Rattle.elongation.specs.Sheet.{elongation}
use Rattle.text.specs.Columns.{all_in_columns, line_of}
use Rattle.text.specs.declared.Program.{Program}
use Rattle.text.specs.Text.{text_of}
use Rattle.drift.specs.Returned.{card as as_card, ReadAsTwoGauges}

-- ---- the text of a card: "Lines of 14-column fields, decimal digits right-justified behind spaces, each line ended by a line feed."

unfoldable pub lines_of : List (List ℕ) → List ℕ
unfolding all_in_columns
lines_of [] = []
lines_of (line ∷ lines) = line_of line ++ lines_of lines

-- ---- the sample's card

-- "2 1 240000 120000 0 0 102400 / 2 1 28000000 3500000 4000000 3072 / 131072 1048576 0 1024 0 / 24 24 0 0 0 3 / 744 0 / 8784 0 /
-- 438000 0", where "the sample's line 4 gains a 0" (document 02, W9), and what an edge changes of it
abbrev pub line1_jacked_to : ℕ → List ℕ
line1_jacked_to jacking_stress = 2 ∷ 1 ∷ 240000 ∷ jacking_stress ∷ 0 ∷ 0 ∷ 102400 ∷ []

abbrev pub line1 : List ℕ
line1 = line1_jacked_to 120000

abbrev pub line2 : ℕ → List ℕ
line2 volume_to_surface = 2 ∷ 1 ∷ 28000000 ∷ 3500000 ∷ 4000000 ∷ volume_to_surface ∷ []

abbrev pub line3 : List ℕ
line3 = 131072 ∷ 1048576 ∷ 0 ∷ 1024 ∷ 0 ∷ []

abbrev pub line4_with : (wobble curvature segments ages second : ℕ) → List ℕ
line4_with wobble curvature segments ages second = 24 ∷ 24 ∷ wobble ∷ curvature ∷ segments ∷ ages ∷ second ∷ []

abbrev pub line4 : (wobble curvature segments ages : ℕ) → List ℕ
line4 wobble curvature segments ages = line4_with wobble curvature segments ages 0

abbrev pub age_lines : List (List ℕ)
age_lines = (744 ∷ 0 ∷ []) ∷ (8784 ∷ 0 ∷ []) ∷ (438000 ∷ 0 ∷ []) ∷ []

abbrev pub lines_under : List ℕ → List (List ℕ)
lines_under first = first ∷ line2 3072 ∷ line3 ∷ line4 0 0 0 3 ∷ age_lines

abbrev pub sample_lines : List (List ℕ)
sample_lines = lines_under line1

abbrev pub sample : List ℕ
sample = lines_of sample_lines

-- what its counts are
abbrev pub sample_counts : Counts
sample_counts = record { segments = 0; ages = 3; second_segments = 0 }

-- the same, jacked a psi higher
abbrev pub higher_lines : List (List ℕ)
higher_lines = lines_under (line1_jacked_to 120001)

-- the fields of some lines, in order
unfoldable pub fields_of : List (List ℕ) → List ℕ
fields_of [] = []
fields_of (line ∷ lines) = line ++ fields_of lines

-- ---- the sample's list: "the same fields in order and in units, not ticks"

-- 100 feet; 3 inches; 128 square inches, 1,024 in⁴ and a square inch
abbrev pub head_in_units : ℕ → List (List ℕ)
head_in_units ages =
    (2 ∷ 1 ∷ 240000 ∷ 120000 ∷ 0 ∷ 0 ∷ 100 ∷ []) ∷ (2 ∷ 1 ∷ 28000000 ∷ 3500000 ∷ 4000000 ∷ 3 ∷ []) ∷ (128 ∷ 1024 ∷ 0 ∷ 1 ∷ 0 ∷ [])
    ∷ line4 0 0 0 ages ∷ []

-- the double of a whole number, which is exact here
abbrev pub double_of : ℕ → Float
double_of whole = round binary64 false whole 1

-- with so many ages, which have these lines
abbrev pub list_of : ℕ → List (List ℕ) → List Float
list_of ages lines = map double_of (fields_of (head_in_units ages ++ lines))

-- ---- the cards of the edges

abbrev pub with_volume_to_surface : ℕ → List ℕ
with_volume_to_surface volume_to_surface = lines_of (line1 ∷ line2 volume_to_surface ∷ line3 ∷ line4 0 0 0 3 ∷ age_lines)

-- under this line 1: wobble 1, curvature 150,000, bends of 4, 4 and 2 radians and a straight segment of this length
abbrev pub duct_under : List ℕ → ℕ → List ℕ
duct_under first straight =
    lines_of
    (first ∷ line2 3072 ∷ line3 ∷ line4 1 150000 4 3 ∷ (3 ∷ 0 ∷ 4096 ∷ []) ∷ (3 ∷ 0 ∷ 4096 ∷ []) ∷ (3 ∷ 0 ∷ 2048 ∷ [])
    ∷ (1 ∷ straight ∷ 0 ∷ []) ∷ age_lines)

abbrev pub with_duct : ℕ → List ℕ
with_duct straight = duct_under line1 straight

-- the sample's line 1 but for its kind
abbrev pub pretensioned1 : List ℕ
pretensioned1 = 1 ∷ 1 ∷ 240000 ∷ 120000 ∷ 0 ∷ 0 ∷ 102400 ∷ []

-- document 002, example 1: jacked to 202.5 ksi, K 0.0002, µ 0.15, six parabolas, their rises to the nearest tick; else the sample's
abbrev pub box_girder : List ℕ
box_girder =
    lines_of
    ((2 ∷ 2 ∷ 270000 ∷ 202500 ∷ 0 ∷ 0 ∷ 307200 ∷ []) ∷ line2 3072 ∷ line3 ∷ line4 200 150000 6 3 ∷ (2 ∷ 65536 ∷ 2560 ∷ [])
    ∷ (2 ∷ 81920 ∷ 3413 ∷ []) ∷ (2 ∷ 16384 ∷ 682 ∷ []) ∷ (2 ∷ 14336 ∷ 682 ∷ []) ∷ (2 ∷ 71680 ∷ 3413 ∷ []) ∷ (2 ∷ 57344 ∷ 2560 ∷ [])
    ∷ age_lines)

-- so many ages, an hour apart, from this hour on
unfoldable pub hourly : ℕ → ℕ → List (List ℕ)
hourly zero hour = []
hourly (suc count) hour = (hour ∷ 0 ∷ []) ∷ hourly count (suc hour)

-- late in the service life, where a logarithm is computed in few steps
abbrev pub late_ages : ℕ → List (List ℕ)
late_ages count = hourly count 437000

abbrev pub with_ages : ℕ → List ℕ
with_ages count = lines_of (line1 ∷ line2 3072 ∷ line3 ∷ line4 0 0 0 count ∷ late_ages count)

-- the sample's but for this ultimate strength, a jacking stress of 60,000 psi, Es 2.5 times Ec, which is Eci too, an eccentricity of an
-- inch, and at the first age this moment
abbrev pub with_gain : ℕ → ℕ → List ℕ
with_gain strength moment =
    lines_of
    ((2 ∷ 1 ∷ strength ∷ 60000 ∷ 0 ∷ 0 ∷ 102400 ∷ []) ∷ (2 ∷ 1 ∷ 20000000 ∷ 8000000 ∷ 8000000 ∷ 3072 ∷ [])
    ∷ (131072 ∷ 1048576 ∷ 1024 ∷ 1024 ∷ 0 ∷ []) ∷ line4 0 0 0 3 ∷ (744 ∷ moment ∷ []) ∷ (8784 ∷ 0 ∷ []) ∷ (438000 ∷ 0 ∷ []) ∷ [])

-- after the first age's gain: 0.80 F to the tick, and a tick above it
abbrev pub reaching : List ℕ
reaching = with_gain 150005 28603053056

abbrev pub passing : List ℕ
passing = with_gain 150000 28601375744

-- the sample's but for a slip of a tick, this tendon length, Es 29,479,201, and a straight of 100 feet with wobble 2, at whose end the slip
-- dies out
abbrev pub with_anchor_set : ℕ → List ℕ
with_anchor_set length =
    lines_of
    ((2 ∷ 1 ∷ 240000 ∷ 120000 ∷ 0 ∷ 1 ∷ length ∷ []) ∷ (2 ∷ 1 ∷ 29479201 ∷ 3500000 ∷ 4000000 ∷ 3072 ∷ []) ∷ line3 ∷ line4 2 0 1 3
    ∷ (1 ∷ 102400 ∷ 0 ∷ []) ∷ age_lines)

-- two paths under this line 1, of a straight and a bend each, without wobble, 100 feet together but for what the second's length changes
abbrev pub two_paths_under : (first : List ℕ) (angle length second_angle second_length : ℕ) → List ℕ
two_paths_under first angle length second_angle second_length =
    lines_of
    (first ∷ line2 3072 ∷ line3 ∷ line4_with 0 150000 2 3 2 ∷ (1 ∷ length ∷ 0 ∷ []) ∷ (3 ∷ 0 ∷ angle ∷ []) ∷ (1 ∷ second_length ∷ 0 ∷ [])
    ∷ (3 ∷ 0 ∷ second_angle ∷ []) ∷ age_lines)

abbrev pub two_paths : (angle second_angle : ℕ) → List ℕ
two_paths angle second_angle = two_paths_under line1 angle 51200 second_angle 51200

abbrev pub of_lengths : (length second_length : ℕ) → List ℕ
of_lengths length second_length = two_paths_under line1 0 length 0 second_length

-- a straight of 50 feet, three bends of 4 radians and a straight of a foot, of which the first so many are the first path's and the others
-- the second's: X is past its limit where the bends are, and both together are far shorter than the tendon
abbrev pub rough_path : (first : List ℕ) (segments second : ℕ) → List ℕ
rough_path first segments second =
    lines_of
    (first ∷ line2 3072 ∷ line3 ∷ line4_with 0 150000 segments 3 second ∷ (1 ∷ 51200 ∷ 0 ∷ []) ∷ (3 ∷ 0 ∷ 4096 ∷ []) ∷ (3 ∷ 0 ∷ 4096 ∷ [])
    ∷ (3 ∷ 0 ∷ 4096 ∷ []) ∷ (1 ∷ 1024 ∷ 0 ∷ []) ∷ age_lines)

-- ---- what a card gives

-- with room for the most ages in report and scratch
abbrev pub result_of_card : List ℕ → OrRefusal Report
result_of_card card = result_read (card_outcome card) (report_room most_ages) (scratch_room most_ages)

-- a refusal's number and place, both "0 if accepted"
abbrev pub number_and_place : OrRefusal Report → List ℕ
number_and_place (Ok report) = 0 ∷ 0 ∷ []
number_and_place (Err refusal) = number refusal ∷ place refusal ∷ []

-- friction and slip of the reply, none of a card that is refused
abbrev pub friction_and_slip : OrRefusal Report → List ℕ
friction_and_slip (Ok report) = report.before.friction ∷ report.before.slip ∷ []
friction_and_slip (Err refusal) = []

-- X that a card's duct has, and 0 of a card that is not read
abbrev pub friction_read : OrRefusal Quantities → ℕ
friction_read (Ok q) = friction_of q q.path
friction_read (Err refusal) = 0

abbrev pub friction_of_card : List ℕ → ℕ
friction_of_card card = friction_read (quantities_read (card_outcome card))

-- the ages of a card
abbrev pub ages_read : OrRefusal Quantities → List Age
ages_read (Ok q) = q.ages
ages_read (Err refusal) = []

abbrev pub age : ℕ → ℕ → Age
age hour moment = record { hour = hour; moment = moment }

-- the stress after the first age's gain, before it is looked at; 0 of a member that does not reach the age
abbrev pub first_lifted : Member → OrRefusal BeforeAges → List Age → ℕ
first_lifted m (Ok before) (first ∷ ages) =
    let start = transfer_end m in
    let end = end_at m (start.moments + first.moment) first.hour in
    before.stress - together (losses_between m before.stress start end) + gain_between m start end
first_lifted m (Ok before) [] = 0
first_lifted m (Err refusal) ages = 0

abbrev pub first_lifted_read : OrRefusal Quantities → ℕ
first_lifted_read (Ok q) = first_lifted (member_of q) (begun_of (member_of q)) q.ages
first_lifted_read (Err refusal) = 0

abbrev pub first_lifted_of : List ℕ → ℕ
first_lifted_of card = first_lifted_read (quantities_read (card_outcome card))

-- "friction, slip, deflector, early relaxation, shortening, stress" of the sample, and its rows: "creep, shrinkage, relaxation, stress",
-- and the gain: "The sample beam has no added moment, so it only gains a zero column."
abbrev pub sample_before : BeforeAges
sample_before =
    record { friction = 0; slip = 0; deflector = 0; early_relaxation = 0; shortening = 7228235; stress = 115651765 }

abbrev pub row1 : Row
row1 = record { creep = 3026370; shrinkage = 5548031; relaxation = 1651198; stress = 105426166; gain = 0 }

abbrev pub row2 : Row
row2 = record { creep = 3074075; shrinkage = 5812223; relaxation = 572430; stress = 95967438; gain = 0 }

abbrev pub row3 : Row
row3 = record { creep = 1865515; shrinkage = 1849344; relaxation = 815347; stress = 91437232; gain = 0 }

-- "It prints friction, slip, deflector, early relaxation, shortening, stress; then age number, hour, creep, shrinkage, relaxation,
-- stress", and the gain "after the stress"
abbrev pub line_before : BeforeAges → List ℕ
line_before before =
    before.friction ∷ before.slip ∷ before.deflector ∷ before.early_relaxation ∷ before.shortening ∷ before.stress ∷ []

abbrev pub age_line : ℕ → ℕ → Row → List ℕ
age_line number hour row =
    number ∷ hour ∷ row.creep ∷ row.shrinkage ∷ row.relaxation ∷ row.stress ∷ row.gain ∷ []

-- the first age of the card that reaches 0.80 F
abbrev pub reached : Row
reached = record { creep = 1769838; shrinkage = 4438425; relaxation = 858339; stress = 122884096; gain = 69831672 }

-- ---- the other readings

-- a reading of creep's clock
abbrev pub creep_clock : ℕ → HoursSinceTransfer
creep_clock hours = record { 0 = hours }

-- the double 0.153, 0x3FC395810624DD2F: its exponent and its fraction
abbrev pub double0153 : ℕ
double0153 = 1020 * 2 ^ 52 + 1008806316530991

-- half of the distance between doubles of this exponent, as a multiple of 1 / 2 ^ 1074
abbrev pub half_apart : ℕ
half_apart = 2 ^ 1018

abbrev pub parabola_of : ℕ → ℕ → Segment
parabola_of length rise = record { kind = parabola; length = length; rise = rise }

-- what a bend of this angle takes of the sample's jacking stress
abbrev pub friction_of_bend : ℕ → ℕ
friction_of_bend angle = friction_loss (120000 * 1024) (150000 * angle * 2 ^ 24 / (1024 * 1000000))

-- ---- the list

pub record Marked : Type 0 where
  -- "this sample": the fields of its text, its ages (the first, the second, the third), what it gives, and what is printed for it
  pub sample_fields : card_outcome sample ≡ accepted sample_counts (fields_of sample_lines)
  pub sample_ages : ages_read (quantities_read (card_outcome sample)) ≡ age 744 0 ∷ age 8784 0 ∷ age 438000 0 ∷ []
  pub sample_result : result_of_card sample ≡ Ok (record { before = sample_before; rows = row1 ∷ row2 ∷ row3 ∷ []; last = 91437232 })
  pub sample_printed : text_of Program.Report sample
      ≡ lines_of (line_before sample_before ∷ age_line 1 744 row1 ∷ age_line 2 8784 row2 ∷ age_line 3 438000 row3 ∷ [])
  -- "A host may instead lend one list of doubles": it is read as the card is
  pub sample_as_list : list_outcome (list_of 3 age_lines) ≡ card_outcome sample
  -- "L(1)=0, L(2)=77, L(9)=244, L(10)=256, L(18)=321, L(720)=731"
  pub L1 : logarithm 1 ≡ 0
  pub L2 : logarithm 2 ≡ 77
  pub L9 : logarithm 9 ≡ 244
  pub L10 : logarithm 10 ≡ 256
  pub L18 : logarithm 18 ≡ 321
  pub L720 : logarithm 720 ≡ 731
  -- "SCF at 2,560 ticks .915", in 102,400ths
  pub scf_2560 : scf 2560 ≡ 93696
  pub scf_thousandths : scf 2560 * 1000 ≡ 915 * 102400
  -- "MCF at 96 h 79,560"
  pub mcf_96 : mcf Cure.Moist 96 ≡ 79560
  -- "creep share at 36 h 1,929,379", whatever the clock reads at the end of the service life
  pub creep_36 : (life : HoursSinceTransfer) → creep_share life (creep_clock 36) ≡ 1929379
  -- "double 0.153 gives 156"; no double is nearer to 0.153
  pub double_156 : ticks_of double0153 ≡ Some 156
  pub double_above : 153 * one ≤ 1000 * (magnitude double0153 + half_apart)
  pub double_below : 1000 * magnitude double0153 ≤ 153 * one + 1000 * half_apart
  -- "parabola 65,536 by 2,560, wobble 200, curvature 150,000: X 411,356"
  pub parabola_X : path_friction 200 150000 (parabola_of 65536 2560 ∷ []) ≡ 411356
  -- "volume/surface 1,024 passes, 1,023 gives 2", at field 13
  pub surface_1024 : number_and_place (result_of_card (with_volume_to_surface 1024)) ≡ 0 ∷ 0 ∷ []
  pub surface_1023 : number_and_place (result_of_card (with_volume_to_surface 1023)) ≡ 2 ∷ 13 ∷ []
  -- document 02, W3: "the edge pair moves to 25,165,824 and 25,165,825", where refusal 4 place 2 begins
  pub X_25165824 : friction_of_card (with_duct 183) ≡ 25165824
  pub X_25165824_passes : number_and_place (result_of_card (with_duct 183)) ≡ 0 ∷ 0 ∷ []
  pub X_25165825 : friction_of_card (with_duct 184) ≡ 25165825
  pub X_25165825_refused : number_and_place (result_of_card (with_duct 184)) ≡ 4 ∷ 2 ∷ []
  -- document 02, W6: "the edge pair in document 01 moves to 48 and 49", at field 24; in a list as on a card
  pub ages_48 : number_and_place (result_of_card (with_ages 48)) ≡ 0 ∷ 0 ∷ []
  pub ages_49 : number_and_place (result_of_card (with_ages 49)) ≡ 2 ∷ 24 ∷ []
  pub ages_48_as_list : list_outcome (list_of 48 (late_ages 48)) ≡ card_outcome (with_ages 48)
  pub ages_49_as_list : (list_outcome (list_of 49 (late_ages 49))).reading ≡ (card_outcome (with_ages 49)).reading
  -- document 02, W1: "11 when the stress after a gain passes 0.80 F". To the tick it passes, "after the stress" stands the gain; a tick
  -- above it is refused at age 1
  pub gain_reaches : 100 * reached.stress ≡ 80 * 150005 * 1024
  pub gain_reaches_passes : text_of Program.Report reaching
      ≡ lines_of
      ((0 ∷ 0 ∷ 0 ∷ 0 ∷ 1320974 ∷ 60119026 ∷ []) ∷ age_line 1 744 reached ∷ (2 ∷ 8784 ∷ 0 ∷ 4649779 ∷ 5220032 ∷ 113014285 ∷ 0 ∷ [])
      ∷ (3 ∷ 438000 ∷ 0 ∷ 1479475 ∷ 6060330 ∷ 105474480 ∷ 0 ∷ []) ∷ [])
  pub gain_above : 100 * first_lifted_of passing ≡ 80 * 150000 * 1024 + 100
  pub gain_above_refused : number_and_place (result_of_card passing) ≡ 11 ∷ 1 ∷ []
  -- document 02, W5: "Where d or P is 0 the old rule stays", and from a tick of each on it does not
  pub no_friction : dies_out 0 1 ≡ false
  pub no_length : dies_out 1 0 ≡ false
  pub tick_of_each : dies_out 1 1 ≡ true
  -- "12 when the affected length Z·P/(2d) passes the tendon length", place 7. Z is just twice the friction, so that the
  -- affected length is that of the path, 102,400 ticks: it may be that of the tendon, and not a tick more
  pub drop_49132 : drop_at_jack 24566 29479201 1 102400 ≡ 2 * 24566
  pub slip_reaches_passes : number_and_place (result_of_card (with_anchor_set 102400)) ≡ 0 ∷ 0 ∷ []
  pub slip_beyond_refused : number_and_place (result_of_card (with_anchor_set 102399)) ≡ 12 ∷ 7 ∷ []
  -- "refusal 7 alone may alter the scratch", and 11: not 12
  pub slip_beyond_keeps_scratch : may_alter_scratch Refusal.AnchorSet ≡ false
  -- document 02, W7: "For each segment .. then the sum, and the measurable part", in ticks of inch; document 002 has 5.49, 6.68, 1.31,
  -- 1.13, 5.50, 4.28, then 24.39 and 19.51 inches
  pub sheet_printed : text_of Program.Sheet box_girder
      ≡ lines_of
      ((1 ∷ 5618 ∷ []) ∷ (2 ∷ 6839 ∷ []) ∷ (3 ∷ 1337 ∷ []) ∷ (4 ∷ 1151 ∷ []) ∷ (5 ∷ 5629 ∷ []) ∷ (6 ∷ 4386 ∷ [])
      ∷ (24960 ∷ 19968 ∷ []) ∷ [])
  -- "rounded down only once": with the mean, 122,754,389.5, rounded by itself it would be a tick less
  pub mean_unrounded : elongation 24000000 122880000 122628779 2095759 ≡ 125617
  -- "13 when the card is pretensioned, checked just before number 4, place 1"
  pub sheet_refused_with_4 : text_of Program.Sheet (duct_under line1 184) ≡ lines_of ((4 ∷ 2 ∷ []) ∷ [])
  pub sheet_refused_with_13 : text_of Program.Sheet (duct_under pretensioned1 184) ≡ lines_of ((13 ∷ 1 ∷ []) ∷ [])
  -- document 02, W8: "two accepted cards differ only in jacking stress": the sample, and the sample jacked a psi higher
  pub gauges : ReadAsTwoGauges (as_card sample) (as_card (lines_of higher_lines)) (quantities_of sample_counts (fields_of sample_lines))
      (quantities_of sample_counts (fields_of higher_lines))
  pub gauges_pass : number_and_place (result_of_card (lines_of higher_lines)) ≡ 0 ∷ 0 ∷ []
  -- document 02, W9: "the larger goes on", whichever path's it is, and what is reported is of that one; "the first path's if they are
  -- equal"
  pub second_goes_on : friction_and_slip (result_of_card (two_paths 1024 512)) ≡ friction_of_bend 512 ∷ 0 ∷ []
  pub first_goes_on : friction_and_slip (result_of_card (two_paths 512 1024)) ≡ friction_of_bend 512 ∷ 0 ∷ []
  pub first_if_equal : (first second : Seated) → first.stress ≡ second.stress → larger first second ≡ first
  -- "12 look at both paths, ahead of any 7 if there are two"; with one, 7 looks at friction before
  pub twelve_of_first : (m : Member) (path second : Path) → slip_along m path ≡ Err Refusal.AnchorSet
      → seated_both m path second ≡ Err Refusal.AnchorSet
  pub twelve_of_second : (m : Member) (path second : Path) (slip : ℕ) → slip_along m path ≡ Ok slip
      → slip_along m second ≡ Err Refusal.AnchorSet → seated_both m path second ≡ Err Refusal.AnchorSet
  pub seven_of_one : (m : Member) (path : Path) (refusal : Refusal)
      → after before_ages (jacked m) (friction_along m path) ≡ Err refusal → seated_alone m path ≡ Err refusal
  -- "14 when a second path stands on a pretensioned card, checked right after number 4 place 1 (first path only), place 2"; 4 place 2 looks
  -- "at both paths"
  pub path_refused_with_4 : number_and_place (result_of_card (rough_path pretensioned1 4 1)) ≡ 4 ∷ 1 ∷ []
  pub second_refused_with_14 : number_and_place (result_of_card (rough_path pretensioned1 0 5)) ≡ 14 ∷ 2 ∷ []
  pub second_refused_with_4 : number_and_place (result_of_card (rough_path line1 1 4)) ≡ 4 ∷ 2 ∷ []
  -- "15 when, with a second path, the two path lengths differ from field 7 by more than one foot together .., place 7"
  pub foot_more : number_and_place (result_of_card (of_lengths 51200 52224)) ≡ 0 ∷ 0 ∷ []
  pub past_a_foot_more : number_and_place (result_of_card (of_lengths 51200 52225)) ≡ 15 ∷ 7 ∷ []
  pub foot_less : number_and_place (result_of_card (of_lengths 51200 50176)) ≡ 0 ∷ 0 ∷ []
  pub past_a_foot_less : number_and_place (result_of_card (of_lengths 51200 50175)) ≡ 15 ∷ 7 ∷ []
  -- "The elongation sheet keeps to the first path, for its check 4 too, and never gives 15": the second is too rough, and both too short
  pub sheet_of_first : text_of Program.Sheet (rough_path line1 1 4) ≡ lines_of ((1 ∷ 2633 ∷ []) ∷ (2633 ∷ 2106 ∷ []) ∷ [])
