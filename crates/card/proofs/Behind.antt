-- What stands behind more bytes than the longest good card has changes nothing: the lines that are due lie in the bytes in front, and a
-- byte more than they have is there either way. So whoever has read that many bytes need not read on. Assumes nothing.
use mathlib.Core.Path.{◌≡◌, refl, ap, ◌∙◌}
use mathlib.Core.List.{List, ◌++◌}
use Prim.Native.Nat.{ℕ, ◌<◌}
use native.Mathlib.Omega.{arith}
use lib.ListN.{length, length-drop}
use Rattle.std.specs.Prelude.{Option, Result, Ok, Err}
use Rattle.fields.specs.declared.read.Counts.{Counts}
use Rattle.fields.specs.Quantities.{first_segment_field}
use Rattle.fields.specs.Limits.{blank_slip}
use Rattle.fields.specs.Outcomes.{OrRefusal}
use Rattle.line.specs.declared.Blank.{Blank}
use Rattle.line.specs.Lines.{Lines}
use Rattle.line.specs.Conditions.{bytes_on}
use Rattle.line.proofs.LineByLine.{lines_right}
use Rattle.line.proofs.Behind.{left_over, extended, lines_front, ended_front}
use Rattle.card.specs.Card.{slip_may_be_blank, head_lines, head, announced_lines, first_segment_line, line_behind, announced, counts_in}
use Rattle.card.specs.Card.{shape, unless_refused, ending, outcome_of, card_outcome}
use Rattle.card.specs.Conditions.{most_bytes}
use Rattle.card.specs.Laws.{announced_bytes, counted}

module _ (blank : Option Blank) (front back : List ℕ) (more : most_bytes < length front) where
  abbrev first : Lines
  first = head blank front

  head_front : head blank (front ++ back) ≡ extended back first
  head_front = lines_front blank back head_lines 1 1 front (omega arith)

  module _ (rest : List ℕ) (head_is : first.rest ≡ Ok rest) (counts : Counts) (counts_are : counts_in first.numbers ≡ Ok counts) where
    -- a byte more than is due
    due : bytes_on (announced_lines counts) < length rest
    due =
        let right = lines_right blank head_lines 1 1 front rest head_is in
        let left = ap length right.rest_is ∙ length-drop (bytes_on head_lines) front in
        let all = announced_bytes counts in
        let c = counted first.numbers counts counts_are in
        let few = c.few_segments in
        let few_ages = c.few_ages in
        let few_second = c.few_second in
        omega arith

    announced_front : announced blank counts (rest ++ back) ≡ extended back (announced blank counts rest)
    announced_front =
        lines_front blank back (announced_lines counts) first_segment_line first_segment_field rest (omega (arith, due))

    some_left : (left : List ℕ) → (announced blank counts rest).rest ≡ Ok left → 0 < length left
    some_left left e =
        let right = lines_right blank (announced_lines counts) first_segment_line first_segment_field rest left e in
        let all = ap length right.rest_is ∙ length-drop (bytes_on (announced_lines counts)) rest in
        omega (arith, due)

    same_ending : ending blank first.numbers (rest ++ back) counts ≡ ending blank first.numbers rest counts
    same_ending = rw (announced_front, ended_front back (line_behind counts) (announced blank counts rest).rest some_left) refl

  by_counts : (rest : List ℕ) → first.rest ≡ Ok rest → (given : OrRefusal Counts) → counts_in first.numbers ≡ given
      → unless_refused given first.numbers (ending blank first.numbers (rest ++ back))
      ≡ unless_refused given first.numbers (ending blank first.numbers rest)
  by_counts rest e (Ok counts) counts_are = same_ending rest e counts counts_are
  by_counts rest e (Err refusal) counts_are = refl

  by_head : (given : Result (List ℕ) ℕ) → first.rest ≡ given
      → unless_refused (shape (left_over back given)) first.numbers (λ rest.
      unless_refused (counts_in first.numbers) first.numbers (ending blank first.numbers rest))
      ≡ unless_refused (shape given) first.numbers (λ rest.
      unless_refused (counts_in first.numbers) first.numbers (ending blank first.numbers rest))
  by_head (Ok rest) e = by_counts rest e (counts_in first.numbers) refl
  by_head (Err line) e = refl

  same_outcome : outcome_of blank (front ++ back) ≡ outcome_of blank front
  unfolding outcome_of
  same_outcome = rw head_front (by_head first.rest refl)

pub behind : (front back : List ℕ) → most_bytes < length front → card_outcome (front ++ back) ≡ card_outcome front
unfolding card_outcome
behind front back more = same_outcome (slip_may_be_blank blank_slip) front back more
