-- How `onward` is read backwards: what gave a value went through every part, and what was refused was refused where it arose; by cases
-- on what was given. Assumes nothing.
use mathlib.Core.Path.{◌≡◌, refl}
use Rattle.fields.specs.declared.refusal.Refusal.{Refusal}
use Rattle.std.specs.Prelude.{Ok, Err}
use Rattle.fields.specs.Outcomes.{OrRefusal, onward}

-- what was given, from which the value came
pub record Through {A B : Type 0} (given : OrRefusal A) (next : A → OrRefusal B) (value : B) : Type 0 where
  pub from : A
  pub given_is : given ≡ Ok from
  pub next_is : next from ≡ Ok value

pub through : {A B : Type 0} (given : OrRefusal A) (next : A → OrRefusal B) {value : B} → onward given next ≡ Ok value
    → Through given next value
through (Ok from) next e = record { from = from; given_is = refl; next_is = e }
through (Err refusal) next e = cc

-- where nothing that follows refuses, what was given did
pub refused : {A B : Type 0} (given : OrRefusal A) (next : A → B) {refusal : Refusal}
    → onward given (λ value. Ok (next value)) ≡ Err refusal → given ≡ Err refusal
refused (Ok from) next e = cc
refused (Err early) next e = cc

-- what holds of each refusal that can arise holds of the one that did
pub of_refused : {A B : Type 0} (P : Refusal → Type 0) (given : OrRefusal A) (next : A → OrRefusal B) {refusal : Refusal}
    → ((early : Refusal) → given ≡ Err early → P early) → ((from : A) (late : Refusal) → next from ≡ Err late → P late)
    → onward given next ≡ Err refusal → P refusal
of_refused P (Ok from) next {refusal} before behind e = behind from refusal e
of_refused P (Err early) next {refusal} before behind e = before refusal (cc)
