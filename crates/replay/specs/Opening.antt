-- The machine that starts from an accepted book agrees with the planner's jobs, the victims in rollback.
use Rattle.std.specs.Prelude.{◌≡◌, refl, ◌⊎◌, Bool, true, false, List, [], ◌∷◌, map, ℕ, ◌<◌, ◌≤◌, pos, length, get_or, set, take}
use Rattle.std.proofs.Common.{sym, ap, ◌∙◌, inl, inr, arith, length-set, get_or-take, length-take-le}
use Rattle.std.proofs.lemmas.List.{length-map}
use Rattle.std.proofs.Math.ListN.{get_or-map, get_or-eq_default}
use Rattle.laws.specs.Search.{lt-or-le}
use Rattle.job.specs.declared.Job.{Job}
use Rattle.book.specs.Read.{Book}
use Rattle.book.specs.Format.{empty_record}
use Rattle.accepted.specs.Good.{record_of, Good}
use Rattle.gus.specs.Victims.{sent_back}
use Rattle.opening.specs.Start.{jobs_from, pay_from}
use Rattle.opening.specs.Sound.{job_is, apart}
use Rattle.replay.specs.Machine.{MachineJob, Machine, from_record, numbered, as_victim, with_victims, machine_from, job_of, finish_worth}
use Rattle.replay.specs.Same.{Same}
use Rattle.replay.specs.Agree.{Agrees}
use Rattle.replay.specs.Records.{Orderly, same-record, no_record}

-- VICTIMS: what agrees still agrees
pub same-victim : {m : MachineJob} {j : Job} → Same m j → Same (as_victim m) (sent_back j)
same-victim s = record { rolling = refl; run = s.run; rollback = s.rollback; request = refl; hold = s.hold; undo = s.undo; distinct = s.distinct; some = s.some }

-- a machine with these jobs, whose account is empty
abbrev pub fresh : ℕ → List MachineJob → Machine
fresh now ms = record { clock = now; paid = pos 0; unpaid = 0; jobs = ms }

victims-size : (is : List ℕ) (ms : List MachineJob) → length (with_victims is ms) ≡ length ms
unfolding with_victims
victims-size [] ms = refl
victims-size (i ∷ is) ms = victims-size is (set ms i (as_victim (numbered ms i))) ∙ length-set ms i (as_victim (numbered ms i))

-- THE BOOK'S JOBS
module _ {b : Book} (g : Good b) where
  abbrev pub ms : List MachineJob
  ms = map from_record (take b.jobs b.records)

  pub ms-size : length ms ≡ b.jobs
  ms-size = length-map (take b.jobs b.records) from_record ∙ length-take-le b.jobs b.records (omega (arith, g.jobs, g.records_size))

  numbered_is : (i : ℕ) → numbered ms i ≡ from_record (record_of b i)
  numbered_is i = get_or-map from_record (take b.jobs b.records) i empty_record ∙ ap from_record (taken (lt-or-le i b.jobs))
    where
      taken : (i < b.jobs) ⊎ (b.jobs ≤ i) → get_or (take b.jobs b.records) i empty_record ≡ record_of b i
      taken (inl l) = get_or-take b.jobs b.records i empty_record l
      taken (inr l) = get_or-eq_default (take b.jobs b.records) empty_record {n = i} (omega (arith, length-take-le b.jobs b.records (omega (arith, g.jobs, g.records_size)))) ∙ sym (g.past i l)

  orderly : (i : ℕ) → Orderly (record_of b i)
  orderly i = elim (lt-or-le i b.jobs) [
    | inl l ↦ record {
      apart = apart g i l;
      room = omega (arith, (g.each i l).holds, (g.each i l).size);
      some = λ k h. let e = (g.each i l).entry k h in (e.some, e.back_some);
    }
    | inr l ↦ rw (g.past i l) no_record
  ]

  pub agrees-book : Agrees (pay_from b) (fresh b.now ms) (jobs_from b)
  agrees-book = record {
    same = λ i. rw (numbered_is i, job_is b i) (same-record (orderly i));
    worth = worth-book;
  }
    where
      worth-book : (rolling : Bool) (i t : ℕ) → finish_worth rolling (job_of (fresh b.now ms) i) t ≡ pay_from b rolling i t
      worth-book true i t = refl
      worth-book false i t = rw (numbered_is i) refl

  pub machine-size : (is : List ℕ) → length (machine_from b is).jobs ≡ b.jobs
  machine-size is = victims-size is ms ∙ ms-size
