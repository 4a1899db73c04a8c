-- It serves the code and the report program's text alone. The sizes of arrays: what the longest card or list needs.
use Rattle.std.specs.Prelude.{ℕ}
use Rattle.fields.specs.declared.read.Counts.{Counts}
use Rattle.fields.specs.Quantities.{fields_in}
use Rattle.fields.specs.Limits.{most_segments, most_ages, report_room, scratch_room}

abbrev pub most_counts : Counts
most_counts = record { segments = most_segments; ages = most_ages; second_segments = most_segments }

abbrev pub most_fields : ℕ
most_fields = fields_in most_counts

abbrev pub most_report : ℕ
most_report = report_room most_ages

abbrev pub most_scratch : ℕ
most_scratch = scratch_room most_ages
