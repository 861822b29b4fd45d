-- What each public function promises leaves one result: stated over its own contract, as the check reads it.
use Prim.Native.Nat.{ℕ}
use mathlib.Core.Path.{◌≡◌, sym, ◌∙◌}
use Rattle.job.specs.declared.Job.{Job}
use Rattle.job.proofs.Job.grant.Reads as grant
use Rattle.job.proofs.Job.run_for.Reads as run-for
use Rattle.job.proofs.Job.roll_back.Reads as roll-back

grant-only : (j r r' : Job) (e e' : Job × Unit {0}) → grant.Post tt (j, tt) r e → grant.Post tt (j, tt) r' e' → r ≡ r'
grant-only j r r' e e' p q = p ∙ sym q

run-for-only : (j : Job) (time : ℕ) (r r' : Job) (e e' : Job × (ℕ × Unit {0})) → run-for.Post tt (j, (time, tt)) r e → run-for.Post tt (j, (time, tt)) r' e' → r ≡ r'
run-for-only j time r r' e e' p q = p ∙ sym q

roll-back-only : (j : Job) (time : ℕ) (r r' : Job) (e e' : Job × (ℕ × Unit {0})) → roll-back.Post tt (j, (time, tt)) r e → roll-back.Post tt (j, (time, tt)) r' e' → r ≡ r'
roll-back-only j time r r' e e' p q = p ∙ sym q
