-- The answers to a book as the code gives them.
use Rattle.std.specs.Prelude.{ℕ, ◌<◌, ◌≡◌, refl, cond, ltb, Option, Some, None, Result, Ok}
use borrow.Author.Tests.{lt-ltb}
use Rattle.cursor.specs.declared.Refusal.{Refusal}
use Rattle.cursor.specs.Answer.{refuse}
use Rattle.gus.specs.declared.Part.{Part}
use Rattle.planner.specs.declared.BookPlan.{BookPlan}
use Rattle.planner.specs.Plans.{Planned, FirstPart}
use Rattle.planner.specs.Planned.{refused_plan}
use Rattle.planner.specs.First.{refused_first, nothing, found}

-- THE PLAN, or the refusal
unfoldable pub plan_told : Planned → Result BookPlan Refusal
plan_told p = cond (ltb 0 p.number) (refuse p.number p.place) (Ok (record {
  victims = p.victims;
  victimcount = p.victimcount;
  parts = p.parts;
  count = p.count;
  rounds = p.rounds;
  total = p.total;
  end = p.end;
}))

-- THE FIRST PART, or none, or the refusal
unfoldable pub first_told : FirstPart → Result (Option Part) Refusal
first_told f = cond (ltb 0 f.number) (refuse f.number f.place) (Ok (cond f.some (Some f.part) None))

-- and back
abbrev pub planned_book : BookPlan → Planned
planned_book b = record {
  number = 0;
  place = 0;
  victims = b.victims;
  victimcount = b.victimcount;
  parts = b.parts;
  count = b.count;
  rounds = b.rounds;
  total = b.total;
  end = b.end;
}

abbrev pub first_book : Option Part → FirstPart
first_book None = nothing
first_book (Some p) = found p

pub plan-refused : (number place : ℕ) → 0 < number → refuse number place ≡ plan_told (refused_plan number place)
unfolding plan_told refused_plan
plan-refused number place h = rw (lt-ltb 0 number h) refl

pub first-refused : (number place : ℕ) → 0 < number → refuse number place ≡ first_told (refused_first number place)
unfolding first_told
first-refused number place h = rw (lt-ltb 0 number h) refl
