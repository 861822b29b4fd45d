-- What each public function promises leaves one result: stated over its own contract, as the check reads it.
use mathlib.Core.Path.{sym, ◌∙◌}
use contract.Lifetimes.{Lfts}
use Rattle.laws.specs.Only.{Only}
use Rattle.opening.proofs.head.head_at.Reads as head_at
use Rattle.opening.proofs.held.held_at.Reads as held_at
use Rattle.opening.proofs.record.job_at.Reads as job-at
use Rattle.opening.proofs.start.open_jobs.Reads as open-jobs

head-at-only : (lifetimes : Lfts 1) → Only (head_at.Post lifetimes)
head-at-only lifetimes a r r' s s' p q = p ∙ sym q

held-at-only : (lifetimes : Lfts 1) → Only (held_at.Post lifetimes)
held-at-only lifetimes a r r' s s' p q = p ∙ sym q

job-at-only : (lifetimes : Lfts 1) → Only (job-at.Post lifetimes)
job-at-only lifetimes a r r' s s' p q = p ∙ sym q

open-jobs-only : (lifetimes : Lfts 2) → Only (open-jobs.Post lifetimes)
open-jobs-only lifetimes a r r' s s' p q = p ∙ sym q
