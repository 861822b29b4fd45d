-- `planner::prepare::prepare` meets its contract: the sheet of the book's jobs, and then with the victims in rollback.
use Prim.Native.Nat.{ℕ}
use mathlib.Core.Path.{◌≡◌, ap, ◌∙◌}
use mathlib.Core.List.{List}
use Rattle.book.specs.Format.{book_of}
use Rattle.gus.specs.Victims.{knot_of}
use Rattle.opening.specs.Planned.{view_from}
use Rattle.planner.specs.declared.Victims.{Victims}
use Rattle.planner.specs.Listing.{listed}
use Rattle.planner.specs.Preparing.{standing, opened-shown, first-scanning, victims-are, victims-handed, sent_is}
use Rattle.planner.proofs.prepare.prepare.Goals as goal

pub lay-requires : goal.lay-requires
lay-requires c = record { standing = standing c.args.bytes.now c.requires.accepted; blank = c.requires.blank }

pub victims-v-requires : goal.victims-v-requires
victims-v-requires c =
    let a = c.requires.accepted in
    first-scanning c.args.bytes.now a (opened-shown c.args.bytes.now a c.lay.ensures)

-- the knot of the victims is the definition's
knot-is : (s : List ℕ) {v : Victims} → v ≡ listed (view_from (book_of s)) (book_of s).now → v.knot ≡ knot_of (view_from (book_of s)) (book_of s).now
unfolding listed
knot-is s e = ap (λ (x : Victims). x.knot) e

pub returns-then-v-lt32 : goal.returns-then-v-lt32
returns-then-v-lt32 c =
    let s = c.args.bytes.now in
    let a = c.requires.accepted in
    let knot = knot-is s (victims-are s a (opened-shown s a c.lay.ensures) c.victims-v.ensures) in
    (λ k. record { number = 10; place = (c.from.ensures ∙ knot) k }, rw knot at c.if-v-lt32.true)

pub settle_rows-requires : goal.settle_rows-requires
settle_rows-requires c =
    let a = c.requires.accepted in
    victims-handed c.args.bytes.now a (victims-are c.args.bytes.now a (opened-shown c.args.bytes.now a c.lay.ensures) c.victims-v.ensures)

pub returns : goal.returns
returns c =
    let s = c.args.bytes.now in
    let a = c.requires.accepted in
    let laid = c.lay.ensures in
    let e = victims-are s a (opened-shown s a laid) c.victims-v.ensures in
    (record { victims = e; sheet_is = λ h. sent_is s a e laid c.settle_rows.ensures }, c.if-v-lt32.false)
