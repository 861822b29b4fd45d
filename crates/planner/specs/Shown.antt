-- What an accepted book and an up-to-date sheet show a round: the view of the jobs, whose worths are the book's.
use Rattle.std.specs.Prelude.{◌≡◌, refl, List, ℕ, ◌≤◌}
use Rattle.std.proofs.Common.{sym, ap, ◌∙◌, subst}
use Rattle.job.specs.declared.Job.{Job}
use Rattle.book.specs.Format.{book_of}
use Rattle.gus.specs.View.{Pay, View, view_of}
use Rattle.gus.specs.Choice.{Way}
use Rattle.invariants.specs.Sound.{Sound}
use Rattle.opening.specs.Start.{pay_from}
use Rattle.planner.specs.declared.GroupParts.{GroupParts}
use Rattle.planner.specs.Sheet.{seen}
use Rattle.planner.specs.Rows.{Rows, Idle}
use Rattle.planner.specs.RowsView.{rows-view, rows-beyond}
use Rattle.planner.specs.Places.{place_for, place-pay, past-pay}
use Rattle.planner.specs.Bounds.{Modest, Planned}
use Rattle.planner.specs.Asking.{Scanning}
use Rattle.planner.specs.LaidOut.{laid_out}
use Rattle.planner.specs.Round.{round_of}

abbrev pub pay_in : List ℕ → Pay
pay_in bytes = pay_from (book_of bytes)

-- the rows of these jobs, with the book's curves
abbrev pub Shown : List ℕ → List Job → List ℕ → Type 0
Shown bytes js sheet = Rows js (place_for bytes (book_of bytes)) sheet

module _ (bytes : List ℕ) (a : (book_of bytes).number ≡ 0) {js : List Job} {sheet : List ℕ} (sound : Sound js) (rows : Shown bytes js sheet) where
  pub shown-view : seen bytes sheet ≡ view_of (pay_in bytes) js
  shown-view = rows-view sound bytes (pay_in bytes) rows (record { curves = λ i t l. place-pay bytes a i t; none = past-pay bytes; back = λ i t. refl })

  pub shown-scanning : {n t : ℕ} → Modest (view_of (pay_in bytes) js) → Idle n js → n ≤ 32 → Planned t → Scanning (seen bytes sheet) n t
  shown-scanning {n} {t} m idle few h = subst (λ (v : View). Scanning v n t) (sym shown-view) (record { seeing = record { modest = m; planned = h }; beyond = rows-beyond sound (pay_in bytes) idle few })

  pub shown-round : (way : Way) (t : ℕ) {g : GroupParts} → g ≡ laid_out (round_of way (seen bytes sheet) t) → g ≡ laid_out (round_of way (view_of (pay_in bytes) js) t)
  shown-round way t h = h ∙ ap (λ (v : View). laid_out (round_of way v t)) shown-view
