-- `even_blocks` meets its contract: each column counted stands in a block that was found even with every word.
use Prim.Native.Nat.{ℕ, ◌+◌, ◌*◌, ◌/◌, ◌%◌, ◌<◌, ◌≤◌}
use mathlib.Core.Path.{◌≡◌, sym, ap, ◌∙◌, subst}
use mathlib.Core.Bool.{true}
use mathlib.Core.List.{List}
use lib.ListN.{length, get_or}
use native.Mathlib.Omega.{arith}
use borrow.Author.Rules.{rules}
use denote.Ref.{Bor}
use Rattle.std.specs.declared.option.Option.{Option}
use Rattle.std.specs.declared.option.Option.TheVariants.{Some, None}
use Rattle.std.specs.Option.{IfSome, option_map}
use Rattle.std.specs.List.{IsSubsliceAt}
use Rattle.combinations.specs.Combination.{x_free}
use Rattle.parity_table.proofs.even_blocks.Goals as goal

abbrev Even : List ℕ → List ℕ → Type 0
Even ws cs = (j : ℕ) → j < length cs → x_free ws (get_or cs j 0) ≡ true

Block : List ℕ → ℕ → ℕ → Bor (List ℕ) → Type 0
Block cs n k x = (length x.now ≡ n) × (k * n + n ≤ length cs) × IsSubsliceAt n cs (k * n) x.now

in_block : (ws cs : List ℕ) (k i : ℕ) (P : Bor (List ℕ) → Type 0) (o : Option (Bor (List ℕ))) (y : Bor (List ℕ)) → option_map (λ z. z) o ≡ Some y
    → IfSome o P → IfSome o (Block cs 64 k) → ((x : Bor (List ℕ)) → P x → Even ws x.now) → i < 64 → x_free ws (get_or cs (k * 64 + i) 0) ≡ true
unfolding Block
in_block ws cs k i P None y e h part even l = cc
in_block ws cs k i P (Some x) y e h part even l = ap (x_free ws) (sym (part.2.2 i 0 l)) ∙ even x h i (omega (arith, part.0))

in_blocks : (ws cs rest : List ℕ) (n j : ℕ) (P : Bor (List ℕ) → Type 0) (o o' : Option (Bor (List ℕ))) (y : Bor (List ℕ)) → option_map (λ z. z) o ≡ Some y → o' ≡ o
    → n ≡ 64 → rest ≡ cs → j ≡ j / 64 * 64 + j % 64
    → IfSome o P → IfSome o' (λ x. (length x.now ≡ n) × (j / 64 * n + n ≤ length rest) × IsSubsliceAt n rest (j / 64 * n) x.now)
    → ((x : Bor (List ℕ)) → P x → Even ws x.now) → x_free ws (get_or cs j 0) ≡ true
unfolding Block
in_blocks ws cs rest n j P o o' y e same size all at h part even =
    let there : IfSome o (Block rest n (j / 64)) = subst (λ (z : Option (Bor (List ℕ))). IfSome z (Block rest n (j / 64))) same part in
    let sized : IfSome o (Block rest 64 (j / 64)) = subst (λ (z : ℕ). IfSome o (Block rest z (j / 64))) size there in
    let whole : IfSome o (Block cs 64 (j / 64)) = subst (λ (z : List ℕ). IfSome o (Block z 64 (j / 64))) all sized in
    ap (λ (z : ℕ). x_free ws (get_or cs z 0)) at ∙ in_block ws cs (j / 64) (j % 64) P o y e h whole even (omega arith)

pub returns-clause-even : goal.returns-clause-even
returns-clause-even c =
    λ j l.
    let whole = c.count-blocks.ensures.runs in
    let p = whole.0 in
    let front = c.take_while.ensures.runs p p.seen whole.1 in
    let q = front.0 in
    let below : j / 64 < p.len = omega (arith, whole.3) in
    let size : q.from.size ≡ 64 = cc front.1 in
    let rest : q.from.rest.now ≡ c.args.columns.now = cc front.1 in
    let block = c.chunks_exact.ensures.runs q q.seen (omega (arith, size)) in
    in_blocks c.args.words.now c.args.columns.now q.from.rest.now q.from.size j _ (p.at (j / 64)) (q.at (j / 64)) _ (p.reads (j / 64) c.args.columns below) (front.2.1 (j / 64) below) size rest (omega arith)
    ((front.2.2 (λ a r f k. search rules)).0 (j / 64)) (block.2 (j / 64)) (λ x k. search rules)
