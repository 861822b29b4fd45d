-- The view of the jobs that the planner's struct of that name gives.
use Rattle.gus.specs.View.{View as Jobs}
use Rattle.planner.specs.declared.view.View.{View}
use Rattle.planner.specs.Sheet.{seen}

abbrev pub seen_by : View → Jobs
seen_by v = seen v.bytes.now v.sheet.now
