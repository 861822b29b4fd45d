-- What rests on specs/Opening.antt.
use Rattle.std.specs.Prelude.{refl, List, [], ◌∷◌, ℕ, ◌<◌, ◌≤◌, pos, length, set}
use Rattle.std.proofs.Common.{inl, inr, arith, length-set}
use Rattle.job.specs.declared.Job.{Job}
use Rattle.book.specs.Read.{Book}
use Rattle.accepted.specs.Good.{Good}
use Rattle.gus.specs.State.{job_at}
use Rattle.gus.specs.View.{Pay}
use Rattle.gus.specs.Victims.{sent_back, settled}
use Rattle.laws.specs.Among.{Among}
use Rattle.opening.specs.Start.{jobs_from, pay_from}
use Rattle.opening.proofs.Sound.{sound-from}
use Rattle.replay.specs.Machine.{MachineJob, numbered, as_victim, with_victims, machine_from}
use Rattle.replay.specs.Agree.{Agrees}
use Rattle.replay.proofs.Agree.{agrees-set}
use Rattle.replay.specs.Opening.{agrees-book, fresh, ms, ms-size, same-victim}

agrees-victims : {pay : Pay} (now : ℕ) (is : List ℕ) (ms : List MachineJob) (js : List Job) → ((i : ℕ) → Among i is → i < length ms) → length ms ≤ length js → Agrees pay (fresh now ms) js → Agrees pay (fresh now (with_victims is ms)) (settled js is)
unfolding with_victims settled
agrees-victims now [] ms js below small a = a
agrees-victims now (i ∷ is) ms js below small a =
    let l = below i (inl refl) in
    agrees-victims now is (set ms i (as_victim (numbered ms i))) (set js i (sent_back (job_at js i)))
    (λ k h. omega (arith, length-set ms i (as_victim (numbered ms i)), below k (inr h)))
    (omega (arith, length-set ms i (as_victim (numbered ms i)), length-set js i (sent_back (job_at js i))))
    (agrees-set i (as_victim (numbered ms i)) (sent_back (job_at js i)) now (pos 0) 0 l (omega arith) (same-victim (a.same i)) refl a)

-- THE BOOK'S JOBS
module _ {b : Book} (g : Good b) where
  pub agrees_start : (is : List ℕ) → ((i : ℕ) → Among i is → i < b.jobs) → Agrees (pay_from b) (machine_from b is) (settled (jobs_from b) is)
  agrees_start is below = agrees-victims b.now is (ms g) (jobs_from b) (λ i h. omega (arith, (ms-size g), below i h)) (omega (arith, (ms-size g), g.jobs, (sound-from g).size)) (agrees-book g)
