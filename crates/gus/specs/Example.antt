-- Worked examples: cases 2, 4 and 5 to 12 of 01 (6 as R-3 of 02 has it), jobs that would finish outside their curves (R-7), a chain of three, a circle that job 0 is not on, and two circles of which one is settled, computed.
use Rattle.std.specs.Prelude.{◌≡◌, refl, Bool, true, false, ◌&&◌, not, cond, List, [], ◌∷◌, ◌++◌, map, ℕ, suc, get_or, take, replicate, set, eqb, ltb, leb, pos, negsuc, None, Some}
use Rattle.laws.specs.Count.{upto}
use Rattle.curve.specs.Density.{denser_than}
use Rattle.job.specs.declared.Held.{Held}
use Rattle.job.specs.declared.Request.{Request}
use Rattle.job.specs.declared.Job.{Job}
use Rattle.job.specs.Times.{never}
use Rattle.job.specs.Held.{free}
use Rattle.job.specs.Job.{no_request, is_left, granted, ran, rolled_back}
use Rattle.gus.specs.declared.Part.{Part}
use Rattle.gus.specs.State.{vacant, job_at, after_all}
use Rattle.gus.specs.Waits.{nobody, waits_for, holder_from, chain_to, chain_of}
use Rattle.gus.specs.View.{Pay, view_of}
use Rattle.gus.specs.Course.{earned, onward, to_free, to_end, denser}
use Rattle.gus.specs.Choice.{reckon, preferred, by_density}
use Rattle.gus.specs.Group.{part_of, grow, group_of}
use Rattle.gus.specs.Round.{better, offered, consider, best_of, rounds}
use Rattle.gus.specs.Victims.{circle_from, circle_of, loss_of, lesser, offer, victim_of, victims_to, victims_of, knot_to, knot_of, settled}
use Rattle.gus.specs.Plan.{answer_to, answer_of}

abbrev none : List Held
none = replicate 32 free

abbrev holding : ℕ → ℕ → ℕ → List Held → List Held
holding r hold rollback held = set held r (record { hold = hold; rollback = rollback })

abbrev asking : ℕ → ℕ → ℕ → Request
asking r hold rollback = record { resource = r; hold = hold; rollback = rollback }

abbrev job : ℕ → ℕ → Request → List Held → Job
job run rollback request held = record { rolling = false; run = run; rollback = rollback; request = request; held = held }

-- flat curves of these worths, each from its start to its end; 0 for rollback at any time
abbrev between : List ℕ → List ℕ → List ℕ → Pay
between worths starts ends rolling i t =
    cond rolling (Some (pos 0)) (cond (leb (get_or starts i 0) t && leb t (get_or ends i 1000)) (Some (pos (get_or worths i 0))) None)

-- from 0 to 1,000
abbrev flat : List ℕ → Pay
flat worths = between worths [] []

abbrev book : List Job → List Job
book js = js ++ replicate 28 vacant

-- the answer to these jobs at the moment 0: victims, parts, rounds, total and end
abbrev Answers : Pay → List Job → List ℕ → List Part → ℕ → ℕ → ℕ → Type 0
Answers pay js victims parts rounds total end =
    answer_of pay (book js) 0 ≡ record { victims = victims; plan = record { parts = parts; rounds = rounds; total = pos total; end = end } }

abbrev Plans : List ℕ → List Job → List ℕ → List Part → ℕ → ℕ → ℕ → Type 0
Plans worths = Answers (flat worths)

abbrev two : List Job
two = job 10 1 no_request none ∷ job 4 1 no_request none ∷ []

-- R-7: job 0 has what job 1 asks for until it ends; by the rollback time of job 0
abbrev late : ℕ → List Job
late rollback = job 10 rollback no_request (holding 0 10 rollback none) ∷ job 5 1 (asking 0 5 1) none ∷ []

-- R-7: job 1 is late in both courses of job 0
abbrev late_behind : List Job
late_behind =
    job 20 1 no_request (holding 0 6 1 none)
    ∷ job 4 2 (asking 0 4 1) (holding 1 4 2 none)
    ∷ job 3 1 (asking 1 3 1) none
    ∷ []

-- R-7: job 2 is late where job 0 is rolled back, and job 1 loses where it runs before 11
abbrev undone_late : List Job
undone_late =
    job 20 7 no_request (holding 0 6 7 none)
    ∷ job 4 1 (asking 0 4 1) (holding 1 4 1 none)
    ∷ job 3 1 (asking 1 3 1) none
    ∷ []

abbrev falling : Pay
falling rolling i t = cond (eqb i 1 && not rolling) (cond (ltb t 11) (Some (negsuc 999)) (Some (pos 0))) (between (0 ∷ 0 ∷ 30 ∷ []) [] (1000 ∷ 1000 ∷ 13 ∷ []) rolling i t)

-- cases 5 to 7, by job 0's run time left and rollback time
abbrev five : ℕ → ℕ → List Job
five run rollback = job run rollback no_request (holding 0 6 rollback none) ∷ job 5 1 (asking 0 5 1) none ∷ []

abbrev eight : List Job
eight = job 12 never no_request (holding 0 3 never (holding 1 8 never none)) ∷ job 2 1 (asking 1 2 1) none ∷ []

-- two jobs that hold resources r and r + 1 and ask for each other's, by each job's rollback time and that of its request
abbrev around : ℕ → ℕ → ℕ → ℕ → ℕ → List Job
around r own asked other otherasked = job 10 own (asking (suc r) 4 asked) (holding r 10 own none) ∷ job 10 other (asking r 4 otherasked) (holding (suc r) 10 other none) ∷ []

-- cases 9 to 11
abbrev nine : ℕ → ℕ → ℕ → ℕ → List Job
nine = around 0

-- case 9 twice, and after the first of its two victims was settled
abbrev twice : List Job
twice = book (nine 3 1 3 1 ++ around 2 3 1 3 1)

abbrev first_settled : List Job
first_settled = settled twice (take 1 (victims_of (view_of (flat (50 ∷ 20 ∷ 50 ∷ 20 ∷ [])) twice) 0))

abbrev twelve : List Job
twelve =
    job 2 never no_request (holding 0 2 never none)
    ∷ job 9 never (asking 0 9 never) (holding 1 3 never none)
    ∷ job 1 never (asking 1 1 never) none
    ∷ job 1 never (asking 0 1 never) none
    ∷ []

-- a chain of three: job 1 waits for job 0, and job 2 for job 1
abbrev chained : List Job
chained = job 5 1 no_request (holding 0 5 1 none) ∷ job 5 1 (asking 0 5 1) (holding 1 4 1 none) ∷ job 1 1 (asking 1 1 1) none ∷ []

abbrev four : List ℕ
four = 0 ∷ 1 ∷ 2 ∷ 3 ∷ []

abbrev on_circle : List Job → ℕ → Bool
on_circle js i = ltb (circle_of (waits_for js) i) 32

-- of each of the four, whether it is one of these and then in rollback
abbrev in_rollback : (ℕ → Bool) → List Bool
in_rollback these = map (λ i. cond (these i) (job_at first_settled i).rolling false) four

record Cases : Type 0 where
  case2 : Plans (50 ∷ 40 ∷ []) two [] (part_of 1 false 4 ∷ part_of 0 false 10 ∷ []) 2 90 14
  -- by one round alone
  first2 : answer_to 1 by_density (flat (50 ∷ 40 ∷ [])) (book two) 0 ≡ record { victims = []; plan = record { parts = part_of 1 false 4 ∷ []; rounds = 1; total = pos 40; end = 4 } }
  -- job 0 would finish at 10, a millisecond after its termination, and at it
  case4 : Answers (between (50 ∷ []) [] (9 ∷ [])) (job 10 1 no_request none ∷ []) [] [] 0 0 0
  in_time : Answers (between (50 ∷ []) [] (10 ∷ [])) (job 10 1 no_request none ∷ []) [] (part_of 0 false 10 ∷ []) 1 50 10
  -- R-7: job 0 is late and can't be rolled back, so that nothing behind it is planned, whatever it would earn
  late_before_answers : Answers (between (5 ∷ 22 ∷ []) [] (8 ∷ [])) (late never) [] [] 0 0 0
  -- it would finish a millisecond before its first start, and at it
  too_soon_answers : Answers (between (5 ∷ 22 ∷ []) (11 ∷ []) []) (late never) [] [] 0 0 0
  soon_enough_answers : Answers (between (5 ∷ 22 ∷ []) (10 ∷ []) []) (late never) [] (part_of 0 false 10 ∷ part_of 1 false 5 ∷ []) 1 27 15
  -- where it can be rolled back that wins, since to run it has none among its credits, though to run would take less time
  late_undone_answers : Answers (between (5 ∷ 22 ∷ []) [] (8 ∷ [])) (late 12) [] (part_of 0 true 12 ∷ part_of 1 false 5 ∷ []) 1 22 17
  -- both courses of job 0 have none, that of job 1, so that job 0 runs, though rolling it back is denser; and then job 1 is rolled back
  both_late_answers : Answers (between (0 ∷ 5 ∷ 30 ∷ []) [] (1000 ∷ 2 ∷ [])) late_behind [] (part_of 0 false 6 ∷ part_of 1 true 2 ∷ part_of 2 false 3 ∷ []) 1 30 11
  -- the denser course of job 0, to roll it back, has none among its credits, that of job 2, and loses
  undone_late_answers : Answers falling undone_late [] (part_of 0 false 6 ∷ part_of 1 true 1 ∷ part_of 2 false 3 ∷ []) 1 30 10
  case5 : Plans (0 ∷ 22 ∷ []) (five 6 2) [] (part_of 0 true 2 ∷ part_of 1 false 5 ∷ []) 1 22 7
  case6 : Plans (30 ∷ 22 ∷ []) (five 20 1) [] (part_of 0 true 1 ∷ part_of 1 false 5 ∷ []) 1 22 6
  case7 : Plans (0 ∷ 22 ∷ []) (five 6 6) [] (part_of 0 false 6 ∷ part_of 1 false 5 ∷ []) 1 22 11
  case8 : Plans (0 ∷ 10 ∷ []) eight [] (part_of 0 false 8 ∷ part_of 1 false 2 ∷ []) 1 10 10
  case9 : Plans (50 ∷ 20 ∷ []) (nine 3 1 3 1) (1 ∷ []) (part_of 1 true 3 ∷ part_of 0 false 10 ∷ []) 1 50 13
  case10 : Plans (50 ∷ 20 ∷ []) (nine 3 1 never never) (0 ∷ []) (part_of 0 true 3 ∷ part_of 1 false 10 ∷ []) 1 20 13
  case11 : knot_of (view_of (flat (50 ∷ 20 ∷ [])) (book (nine never never never never))) 0 ≡ 0
  -- R-7: the loss of a job that is late already is 0, so that job 0 is the victim
  late_victim : victims_of (view_of (between (50 ∷ 20 ∷ []) [] (9 ∷ [])) (book (nine 3 1 3 1))) 0 ≡ 0 ∷ []
  case12 : Plans (0 ∷ 5 ∷ 60 ∷ 5 ∷ []) twelve [] (part_of 0 false 2 ∷ part_of 1 false 3 ∷ part_of 2 false 1 ∷ part_of 1 false 6 ∷ part_of 3 false 1 ∷ []) 2 70 13
  -- R-3: running job 0 would end it, and running job 1 would not. Were job 1 still credited where job 0 is decided on, job 0 would roll back.
  three : Plans (30 ∷ 30 ∷ 30 ∷ []) chained [] (part_of 0 false 5 ∷ part_of 1 true 1 ∷ part_of 2 false 1 ∷ []) 1 60 7
  -- the victims of case 9 behind a job that waits for nobody
  behind_job_0 : victims_of (view_of (flat (7 ∷ 50 ∷ 20 ∷ [])) (book (job 1 1 no_request none ∷ nine 3 1 3 1))) 0 ≡ 2 ∷ []
  -- R-8: job 1, the first victim, has not ended, is in rollback and on no circle any more; no member of the second circle is in rollback
  circles_before : map (circle_of (waits_for twice)) four ≡ 0 ∷ 0 ∷ 2 ∷ 2 ∷ []
  circles_then : map (circle_of (waits_for first_settled)) four ≡ nobody ∷ nobody ∷ 2 ∷ 2 ∷ []
  modes_then : map (λ i. (job_at first_settled i).rolling) four ≡ false ∷ true ∷ false ∷ false ∷ []
  left_then : map (λ i. is_left (job_at first_settled i)) four ≡ true ∷ true ∷ true ∷ true ∷ []
  none_in_rollback : in_rollback (on_circle first_settled) ≡ false ∷ false ∷ false ∷ false ∷ []

cases : Cases
unfolding answer_to victims_of victims_to victim_of offer lesser loss_of circle_of circle_from knot_of knot_to settled rounds best_of consider offered better group_of grow by_density preferred reckon to_free to_end onward earned denser denser_than chain_of chain_to holder_from after_all upto granted ran rolled_back
cases = record {
  case2 = refl;
  first2 = refl;
  case4 = refl;
  in_time = refl;
  late_before_answers = refl;
  too_soon_answers = refl;
  soon_enough_answers = refl;
  late_undone_answers = refl;
  both_late_answers = refl;
  undone_late_answers = refl;
  case5 = refl;
  case6 = refl;
  case7 = refl;
  case8 = refl;
  case9 = refl;
  case10 = refl;
  case11 = refl;
  late_victim = refl;
  case12 = refl;
  three = refl;
  behind_job_0 = refl;
  circles_before = refl;
  circles_then = refl;
  modes_then = refl;
  left_then = refl;
  none_in_rollback = refl;
}
