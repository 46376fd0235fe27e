use mathlib.Core.Path.{refl, ap}
use mathlib.Core.List.{List, ◌++◌}
use Prim.Native.Nat.{ℕ, ◌-◌, ◌*◌}
use native.Mathlib.Omega.{arith}
use lib.ListN.{drop}
use borrow.Author.Rules.{rules}
use Rattle.marked_words.proofs.ListLaws.{lent_long, listing_starts, listing_turns, listing_ends}
use Rattle.marked_words.proofs.list_by.Goals as goal

pub loop-i-init : goal.loop-i-init
loop-i-init g c = (search rules, λ row bytes k. listing_starts _ _ _ _ (omega arith))

pub list_word-place-requires : goal.list_word-place-requires
list_word-place-requires g c = rw (lent_long c.args.words.now (64 * (c.loop-i.i - 1))) (c.requires.inside _ _ (omega arith) c.marks_of.ensures)

pub loop-i-preserved : goal.loop-i-preserved
loop-i-preserved g c =
    let at = c.loop-i in
    let listed = c.list_word-place.ensures in (
      search rules,
      λ row bytes k.
          listing_turns c.args.words.now row bytes _ _ _ _ _ _ at.i _ _ (at.invariant.1 row bytes k) (omega arith) (omega arith) refl (k _ _ (omega arith) c.marks_of.ensures) refl listed.value
          (ap (λ (x : List ℕ). x ++ drop at.place at.columns) listed.columns_after),
    )

pub returns : goal.returns
returns g c = λ row bytes k. listing_ends _ _ _ _ _ _ (c.loop-i.invariant.1 row bytes k) (omega arith)
