-- Each way out of the elimination call, and what it answers and leaves in the lent list. Assumes nothing.
use mathlib.Core.Path.{◌≡◌, refl, sym, ap, ap₂, ◌∙◌, subst}
use mathlib.Core.Bool.{Bool, true, false}
use mathlib.Core.List.{List, ◌++◌}
use Prim.Native.Nat.{ℕ, ◌-◌, ◌<◌, ◌≤◌}
use native.Mathlib.Omega.{arith}
use borrow.Author.Tests.{le-ltb, lt-ltb, eq-eqb, ne_eqb}
use lib.ListN.{length, take, drop, length-append}
use lib.Seq.{take_all, take-append-le, length-take-le}
use Rattle.word.proofs.ReplyLaws.{Leaves, refusal_leaves, answer_leaves}
use Rattle.word.specs.Word.{beyond, bad_width}
use Rattle.word.specs.Some.{any_of}
use Rattle.word.specs.Reply.{answer, refusal, front}
use Rattle.word.proofs.WordLaws.{good_width}
use Rattle.combinations.specs.Combination.{rank, only_empty}
use Rattle.combinations.specs.Reduced.{reduced_list}
use Rattle.combinations.specs.Step.{steps, units}
use Rattle.elimination.specs.Elimination.{elimination_reply, said}
use Rattle.elimination.specs.declared.Eliminated.{Eliminated}
use Rattle.std.specs.Prelude.{Result, Ok, Err}
use Rattle.refusals.specs.declared.Refusal.{Refusal}
use Rattle.refusals.specs.declared.Refusal.TheVariants.{Width, Column, NoCombination, ShortWordList}
use Rattle.refusals.specs.Refusals.{number}
use Rattle.combinations.proofs.Theorems.{kept_list, words_and_rank, only_empty_list}
use Rattle.elimination.proofs.Theorems.{reply_2, reply_15, reply_17, reply_18, reply_done}
use Rattle.combinations.proofs.Units.{length_units, units_front}

-- what the call answers, e, and leaves in the list l, l'
abbrev pub Ends : ℕ → List ℕ → List ℕ → Result Eliminated Refusal → List ℕ → Type 0
Ends m cs l e l' = Leaves (elimination_reply m cs (length l)) (reduced_list m cs) (said e) l l'

ends_refused : (m : ℕ) (cs l : List ℕ) (e : Refusal) → elimination_reply m cs (length l) ≡ refusal (number e) → Ends m cs l (Err e) l
ends_refused m cs l e h = refusal_leaves _ (refusal (number e)) (number e) (reduced_list m cs) l h refl

pub ends_2 : (m : ℕ) (cs l : List ℕ) (b : Bool) → b ≡ bad_width m → b ≡ true → Ends m cs l (Err Width) l
ends_2 m cs l b w t = ends_refused m cs l Width (reply_2 m cs (length l) (sym w ∙ t))

pub ends_15 : (m : ℕ) (cs l : List ℕ) (b d : Bool) → b ≡ bad_width m → b ≡ false → d ≡ any_of (beyond m) cs → d ≡ true → Ends m cs l (Err Column) l
ends_15 m cs l b d w f x t = ends_refused m cs l Column (reply_15 m cs (length l) (sym w ∙ f) (sym x ∙ t))

-- past 15: the width and the columns are right, and q counts the words that the steps left
pub record Kept (m : ℕ) (cs : List ℕ) (q : ℕ) : Type 0 where
  pub width : bad_width m ≡ false
  pub columns : any_of (beyond m) cs ≡ false
  pub count : q ≡ length (reduced_list m cs)

pub ends_17 : (m : ℕ) (cs l : List ℕ) (q : ℕ) → Kept m cs q → q ≡ 0 → Ends m cs l (Err NoCombination) l
ends_17 m cs l q g z =
    ends_refused m cs l NoCombination
    (reply_17 m cs (length l) g.width g.columns
    (only_empty_list m cs ∙ eq-eqb (length (reduced_list m cs)) 0 (sym g.count ∙ z)))

some_word : (m : ℕ) (cs : List ℕ) (q : ℕ) → Kept m cs q → (q ≡ 0 → ⊥) → only_empty m cs ≡ false
some_word m cs q g n = only_empty_list m cs ∙ ne_eqb (length (reduced_list m cs)) 0 (λ z. n (g.count ∙ z))

pub ends_18 : (m : ℕ) (cs l : List ℕ) (q : ℕ) → Kept m cs q → (q ≡ 0 → ⊥) → length l < q → Ends m cs l (Err ShortWordList) l
ends_18 m cs l q g n h =
    ends_refused m cs l ShortWordList
    (reply_18 m cs (length l) g.width g.columns (some_word m cs q g n)
    (lt-ltb (length l) (length (reduced_list m cs)) (subst (λ (x : ℕ). length l < x) g.count h)))

done_reply : (m : ℕ) (cs l : List ℕ) (q : ℕ) → Kept m cs q → (q ≡ 0 → ⊥) → q ≤ length l
    → elimination_reply m cs (length l) ≡ answer (record { rank = rank cs; q = length (reduced_list m cs) })
done_reply m cs l q g n h =
    reply_done m cs (length l) g.width g.columns (some_word m cs q g n)
    (le-ltb (length l) (length (reduced_list m cs)) (subst (λ (x : ℕ). x ≤ length l) g.count h))

-- `from` is what was written over the front
pub ends_done : (m : ℕ) (cs l l' from : List ℕ) (q : ℕ) → Kept m cs q → (q ≡ 0 → ⊥) → q ≤ length l → from ≡ reduced_list m cs
    → l' ≡ front (take (length l) from) l → Ends m cs l (Ok (record { rank = m - q; q = q })) l'
ends_done m cs l l' from q g n h e w =
    let ranked : m - q ≡ rank cs = omega (arith, words_and_rank m cs g.columns, g.count) in
    let fits : length from ≤ length l = omega (arith, ap length e, g.count) in
    answer_leaves _ _ _ (reduced_list m cs) l l' (done_reply m cs l q g n h)
    (ap₂ (λ (x y : ℕ). answer (record { rank = x; q = y })) ranked g.count) (w ∙ ap (λ (x : List ℕ). front x l) (take_all (length l) from fits ∙ e))

-- ---- the words that the steps leave

steps_kept : (m : ℕ) (cs held : List ℕ) → bad_width m ≡ false → held ≡ units 64 → steps cs (take m held) ≡ reduced_list m cs
steps_kept m cs held w e =
    ap (steps cs) (ap (take m) e ∙ units_front m (good_width m w).1) ∙ sym (kept_list m cs)

pub kept_most : (m : ℕ) (cs : List ℕ) (q : ℕ) → Kept m cs q → q ≤ m
kept_most m cs q g = omega (arith, words_and_rank m cs g.columns, g.count)

pub width_inside : (m : ℕ) (b : Bool) (held : List ℕ) → b ≡ bad_width m → b ≡ false → held ≡ units 64 → m ≤ length held
width_inside m b held w f e = omega (arith, (good_width m (sym w ∙ f)).1, ap length e, length_units 64)

pub kept_of : (m : ℕ) (cs held : List ℕ) (b d : Bool) (q : ℕ) → b ≡ bad_width m → b ≡ false → d ≡ any_of (beyond m) cs → d ≡ false → held ≡ units 64
    → q ≡ length (steps cs (take m held)) → Kept m cs q
kept_of m cs held b d q w f x g e h =
    let width = sym w ∙ f in
    record { width = width; columns = sym x ∙ g; count = h ∙ ap length (steps_kept m cs held width e) }

pub part_long : (m : ℕ) (cs held part : List ℕ) (q : ℕ) → Kept m cs q → held ≡ units 64 → length part ≡ length (take m held) → q ≤ length part
part_long m cs held part q g e h =
    let inside : m ≤ length held = width_inside m false held (sym g.width) refl e in
    omega (arith, kept_most m cs q g, length-take-le m held inside)

pub held_long : (m : ℕ) (cs held part : List ℕ) (q : ℕ) → Kept m cs q → held ≡ units 64 → length part ≡ length (take m held) → q ≤ length (part ++ drop m held)
held_long m cs held part q g e h = omega (arith, part_long m cs held part q g e h, length-append part (drop m held))

pub kept_words : (m : ℕ) (cs held part : List ℕ) (q : ℕ) → Kept m cs q → held ≡ units 64 → length part ≡ length (take m held) → take q part ≡ steps cs (take m held)
    → take q (part ++ drop m held) ≡ reduced_list m cs
kept_words m cs held part q g e h t =
    take-append-le q part (drop m held) (part_long m cs held part q g e h) ∙ t ∙ steps_kept m cs held g.width e
