-- The customer's third demand, over the definitions that the public contracts cite: the replies of planning, of the plan writer
-- and reader, of signing a record and of judging, each as its own crate defines it. "The plan made of a set" is plan_file set p,
-- where planning answered with p for it; a signature y has the register's width where y < 2 ^ width_of set.
--
-- 1. Unknowns cannot show.
--      same_for_alike_records  records that are alike in every known cell and obey the ties get the same cancelled bits and verdict
-- 2. A verdict decides.
--      explained_passes        an explained signature passes, with the expected bits as its cancelled bits
--      passes_explained        a signature of the register's width that passes is explained
--      passes_exactly          .. so a signature of that width passes exactly when it is explained
--      unexplained_fails       one that isn't explained fails, at the first word that disagrees
--      fails_exactly           .. so it fails, at that word, exactly when nothing explains it
-- 3. Nothing is left out.
--      all_x_free              a combination is X-free exactly when it is an XOR of listed words, or of none
--      seventeen_explained     where planning gives 17, every signature of the register's width is explained
--      explained_seventeen     .. and where every one is and no number before 17 applies (earlier_tests), it gives 17
-- The plan itself:
--      planned_parts           planning answers with the set's m, q and expected bits
--      plan_written            the plan writer takes them where there is room
--      plan_read_back          the plan reader reads them back
--      plan_judged             judging answers by the set's words and expected bits
--      signed_within           a record's signature has the register's width
-- Assumes nothing.
use mathlib.Core.Path.{◌≡◌, refl, sym, ap, ap₂, ◌∙◌, subst}
use mathlib.Core.Bool.{true}
use mathlib.Core.List.{List}
use Prim.Native.Nat.{ℕ, ◌^◌, ◌<◌, ◌≤◌}
use native.Mathlib.Nat.{lt_trans}
use native.Mathlib.Omega.{arith}
use lib.Bits.{bit_xor}
use lib.ListN.{length}
use Rattle.word.specs.Parities.{parities}
use Rattle.word.specs.Span.{is_xor_of}
use Rattle.word.specs.Reply.{answer, refusal, first_of}
use Rattle.word.proofs.Laws.{parities_lt, parities_digit}
use Rattle.word.proofs.TestLaws.{first_of_none, replied_answer}
use Rattle.combinations.specs.Combination.{x_free}
use Rattle.combinations.proofs.Theorems.{x_free_listed, only_empty_explains, explains_only_empty}
use Rattle.set_layout.specs.Layout.{width_of, chains_of, slices_of, circuit_of}
use Rattle.set_file.specs.Reading.{set_tests}
use Rattle.set_file.proofs.Laws.{Accepted, accepted}
use Rattle.signatures.specs.Signature.{signature}
use Rattle.signatures.specs.Sets.{Explained, columns_of, zero_signature, record_cells}
use Rattle.signing.specs.Signing.{sign_tests, sign_reply}
use Rattle.signatures.proofs.SetLaws.{columns_of_within, signature_within}
use Rattle.kept_words.specs.Working.{words_of}
use Rattle.planner.specs.Planning.{expected_of, earlier_tests, PlanParts, parts_of, plan_reply}
use Rattle.planner.proofs.NumberLaws.{earlier_set}
use Rattle.planner.proofs.CallLaws as planning
use Rattle.plan_file.specs.Layout.{plan_length, file_words}
use Rattle.plan_file.specs.Reading.{plan_file_reply}
use Rattle.plan_writer.specs.Writing.{plan_content, plan_bytes, plan_write_reply}
use Rattle.plan_writer.proofs.Parts.{content_taken, content_read_lem, written_words}
use Rattle.judge.specs.Verdict.{Outcome, passes, fails_at, verdict, Finding, judge_reply}
use Rattle.judge.proofs.Laws.{passes_agrees, agrees_passes, FailsAt, fails_first}
use Rattle.guarantee.specs.Demand.{AlikeObeying, plan_file, FirstDisagrees}
use Rattle.guarantee.proofs.Explaining as explaining
use Rattle.guarantee.proofs.Planned as planned
use Rattle.guarantee.proofs.Content as content

-- ---- the plan made of a set

-- planning that answers answers with the set's m, the number of its words, and its expected bits
pub planned_parts : (set : List ℕ) (k l : ℕ) (p : PlanParts) → plan_reply set k l ≡ answer p → p ≡ parts_of set
planned_parts = planning.planned_parts

-- the plan writer, handed what planning answered and the words, takes it where there is room for the file
pub plan_written : (set : List ℕ) (k l room : ℕ) (p : PlanParts) → plan_reply set k l ≡ answer p → plan_length p.q ≤ room
    → plan_write_reply (plan_content p.m (words_of set) p.expected) room ≡ answer (plan_length p.q)
plan_written set k l room p h r =
    let parts : p ≡ parts_of set = planning.planned_parts set k l p h in
    ap (λ (x : PlanParts). plan_write_reply (plan_content x.m (words_of set) x.expected) room) parts
    ∙ content_taken _ room (planned.planned_content set k l p h) (subst (λ (x : PlanParts). plan_length x.q ≤ room) parts r)
    ∙ sym (ap (λ (x : PlanParts). answer (plan_length x.q)) parts)

-- the plan reader answers for the file with planning's m, q and expected bits, and the file's words are the set's
pub plan_read_back : (set : List ℕ) (k l room : ℕ) (p : PlanParts) → plan_reply set k l ≡ answer p → p.q ≤ room
    → (plan_file_reply (plan_file set p) room ≡ answer (record { m = p.m; q = p.q; expected = p.expected }))
    × (file_words (plan_file set p) ≡ words_of set)
plan_read_back set k l room p h r =
    let parts : p ≡ parts_of set = planning.planned_parts set k l p h in
    let file : plan_file set p ≡ plan_bytes (plan_content (width_of set) (words_of set) (expected_of set)) = planned.planned_file set k l p h in (
      ap (λ (f : List ℕ). plan_file_reply f room) file
          ∙ content_read_lem _ (planned.planned_content set k l p h) room (subst (λ (x : PlanParts). x.q ≤ room) parts r)
          ∙ sym (ap (λ (x : PlanParts). answer (record { m = x.m; q = x.q; expected = x.expected })) parts),
      ap file_words file ∙ written_words _ (planned.planned_content set k l p h),
    )

-- judging answers for the file and a signature of the register's width with its parities and the verdict of the set's words
pub plan_judged : (set : List ℕ) (k l : ℕ) (p : PlanParts) (y : ℕ) → plan_reply set k l ≡ answer p → y < 2 ^ width_of set
    → judge_reply (plan_file set p) y
    ≡ answer (record { cancelled = parities (words_of set) y; outcome = verdict (words_of set) (expected_of set) y })
plan_judged set k l p y h w =
    ap (λ (f : List ℕ). judge_reply f y) (planned.planned_file set k l p h)
    ∙ content.content_judged _ (planned.planned_content set k l p h) y w

-- ---- 1: unknowns cannot show

signed : (set r : List ℕ) (y : ℕ) → sign_reply set r ≡ answer y
    → (first_of (sign_tests set r) ≡ 0) × (y ≡ signature (circuit_of set) (record_cells (chains_of set) r) (slices_of set))
unfolding sign_reply
signed set r y h = replied_answer (first_of (sign_tests set r)) (signature (circuit_of set) (record_cells (chains_of set) r) (slices_of set)) y h

-- the signature of a record that meets no number has the register's width
pub signed_within : (set r : List ℕ) (y : ℕ) → sign_reply set r ≡ answer y → y < 2 ^ width_of set
unfolding sign_tests
signed_within set r y h =
    let taken : Accepted set = accepted set (first_of_none (set_tests set) _ (signed set r y h).0) in
    subst (λ (x : ℕ). x < 2 ^ width_of set) (sym (signed set r y h).1) (signature_within set taken (record_cells (chains_of set) r))

expected_inside : (set : List ℕ) → expected_of set < 2 ^ length (words_of set)
unfolding expected_of
expected_inside set = parities_lt (words_of set) (zero_signature set)

-- records that are alike in every known cell and obey the ties get the same answer from judging: cancelled bits, verdict and index
pub same_for_alike_records : (set : List ℕ) (k l : ℕ) (p : PlanParts) (r v : List ℕ) (y z : ℕ) → plan_reply set k l ≡ answer p
    → sign_reply set r ≡ answer y → sign_reply set v ≡ answer z → AlikeObeying set r v
    → judge_reply (plan_file set p) y ≡ judge_reply (plan_file set p) z
same_for_alike_records set k l p r v y z h hr hv a =
    let wy : y < 2 ^ width_of set = signed_within set r y hr in
    let wz : z < 2 ^ width_of set = signed_within set v z hv in
    let differ : is_xor_of (columns_of set) (bit_xor y z) ≡ true =
    ap₂ (λ (x u : ℕ). is_xor_of (columns_of set) (bit_xor x u)) (signed set r y hr).1 (signed set v z hv).1 ∙ explaining.alike_xor set (planned.planned_accepted set k l p h) r v a
    in
    let same : parities (words_of set) y ≡ parities (words_of set) z =
    explaining.xor_parities set (planned.planned_accepted set k l p h) y z wy wz differ
    in
    plan_judged set k l p y h wy
    ∙ ap₂ (λ (b : ℕ) (o : Outcome). answer (record { cancelled = b; outcome = o })) same
    (content.same_verdict (words_of set) (expected_of set) y z (expected_inside set) same)
    ∙ sym (plan_judged set k l p z h wz)

-- ---- 2: a verdict decides

-- an explained signature passes, with the expected bits as its cancelled bits
pub explained_passes : (set : List ℕ) (k l : ℕ) (p : PlanParts) (y : ℕ) → plan_reply set k l ≡ answer p → Explained set y
    → judge_reply (plan_file set p) y ≡ answer (record { cancelled = p.expected; outcome = passes })
explained_passes set k l p y h e =
    let taken : Accepted set = planned.planned_accepted set k l p h in
    let same : parities (words_of set) y ≡ expected_of set = explaining.explained_expected set taken y e in
    plan_judged set k l p y h (explaining.explained_within set taken y e)
    ∙ ap₂ (λ (b : ℕ) (o : Outcome). answer (record { cancelled = b; outcome = o }))
    (same ∙ sym (ap (λ (x : PlanParts). x.expected) (planning.planned_parts set k l p h)))
    (agrees_passes (words_of set) (expected_of set) y same (expected_inside set))

-- a signature of the register's width that passes is explained
pub passes_explained : (set : List ℕ) (k l : ℕ) (p : PlanParts) (y : ℕ) (f : Finding) → plan_reply set k l ≡ answer p
    → y < 2 ^ width_of set → judge_reply (plan_file set p) y ≡ answer f → f.outcome ≡ passes → Explained set y
passes_explained set k l p y f h w j o =
    let found : answer f ≡ answer (record { cancelled = parities (words_of set) y; outcome = verdict (words_of set) (expected_of set) y }) =
    sym j ∙ plan_judged set k l p y h w
    in
    let passed : verdict (words_of set) (expected_of set) y ≡ passes = cc in
    explaining.expected_explained set (planned.planned_accepted set k l p h) y w
    (passes_agrees (words_of set) (expected_of set) y (expected_inside set) passed)

-- word i is the first that disagrees, in the definitions' words
first_disagrees : (set : List ℕ) (y i : ℕ) → FailsAt i (words_of set) (expected_of set) y → FirstDisagrees set y i
unfolding expected_of
first_disagrees set y i f =
    record {
      listed = f.listed;
      disagrees = λ e.
          f.differs (parities_digit (words_of set) y i f.listed ∙ e ∙ sym (parities_digit (words_of set) (zero_signature set) i f.listed));
      agree = λ j h.
          sym (parities_digit (words_of set) y j (lt_trans h f.listed)) ∙ f.agrees j h
          ∙ parities_digit (words_of set) (zero_signature set) j (lt_trans h f.listed);
    }

-- a signature of the register's width that isn't explained fails, and the index is that of the first word that disagrees
pub unexplained_fails : (set : List ℕ) (k l : ℕ) (p : PlanParts) (y : ℕ) → plan_reply set k l ≡ answer p → y < 2 ^ width_of set
    → (Explained set y → ⊥)
    → (i : ℕ) × FirstDisagrees set y i
    × (judge_reply (plan_file set p) y ≡ answer (record { cancelled = parities (words_of set) y; outcome = fails_at i }))
unexplained_fails set k l p y h w n = go (verdict (words_of set) (expected_of set) y) refl
  where
    judged : (o : Outcome) → verdict (words_of set) (expected_of set) y ≡ o
        → judge_reply (plan_file set p) y ≡ answer (record { cancelled = parities (words_of set) y; outcome = o })
    judged o e =
        plan_judged set k l p y h w ∙ ap (λ (x : Outcome). answer (record { cancelled = parities (words_of set) y; outcome = x })) e

    go : (o : Outcome) → verdict (words_of set) (expected_of set) y ≡ o
        → (i : ℕ) × FirstDisagrees set y i
        × (judge_reply (plan_file set p) y ≡ answer (record { cancelled = parities (words_of set) y; outcome = fails_at i }))
    go passes e = absurd (n (passes_explained set k l p y _ h w (judged passes e) refl))
    go (fails_at i) e = (i, first_disagrees set y i (fails_first i (words_of set) (expected_of set) y e), judged (fails_at i) e)

-- it passes exactly when it is explained
pub passes_exactly : (set : List ℕ) (k l : ℕ) (p : PlanParts) (y : ℕ) → plan_reply set k l ≡ answer p → y < 2 ^ width_of set
    → (Explained set y → judge_reply (plan_file set p) y ≡ answer (record { cancelled = p.expected; outcome = passes }))
    × ((f : Finding) → judge_reply (plan_file set p) y ≡ answer f → f.outcome ≡ passes → Explained set y)
passes_exactly set k l p y h w = (explained_passes set k l p y h, (λ f. passes_explained set k l p y f h w))

-- a verdict that fails at i says that nothing explains the signature, and that word i is the first that disagrees
fails_unexplained : (set : List ℕ) (k l : ℕ) (p : PlanParts) (y : ℕ) (f : Finding) (i : ℕ) → plan_reply set k l ≡ answer p → y < 2 ^ width_of set
    → judge_reply (plan_file set p) y ≡ answer f → f.outcome ≡ fails_at i → (Explained set y → ⊥) × FirstDisagrees set y i
fails_unexplained set k l p y f i h w j o =
    let found : answer f ≡ answer (record { cancelled = parities (words_of set) y; outcome = verdict (words_of set) (expected_of set) y }) =
    sym j ∙ plan_judged set k l p y h w
    in
    let failed : verdict (words_of set) (expected_of set) y ≡ fails_at i = cc in
    ((λ e. passed e), first_disagrees set y i (fails_first i (words_of set) (expected_of set) y failed))
  where
    passed : Explained set y → ⊥
    passed e =
        let both : answer f ≡ answer (record { cancelled = p.expected; outcome = passes }) = sym j ∙ explained_passes set k l p y h e in
        let clash : ◌≡◌ {A = ℕ} 0 1 = cc in
        omega arith

-- it fails, at the first word that disagrees, exactly when it isn't explained
pub fails_exactly : (set : List ℕ) (k l : ℕ) (p : PlanParts) (y : ℕ) → plan_reply set k l ≡ answer p → y < 2 ^ width_of set
    → ((f : Finding) (i : ℕ) → judge_reply (plan_file set p) y ≡ answer f → f.outcome ≡ fails_at i → (Explained set y → ⊥) × FirstDisagrees set y i)
    × ((Explained set y → ⊥)
    → (i : ℕ) × FirstDisagrees set y i
    × (judge_reply (plan_file set p) y ≡ answer (record { cancelled = parities (words_of set) y; outcome = fails_at i })))
fails_exactly set k l p y h w =
    ((λ f i j o. fails_unexplained set k l p y f i h w j o), unexplained_fails set k l p y h w)

-- ---- 3: nothing is left out

-- a combination of the register's bits is X-free exactly when it is an XOR of listed words, or of none
pub all_x_free : (set : List ℕ) (w : ℕ) → w < 2 ^ width_of set → x_free (columns_of set) w ≡ is_xor_of (words_of set) w
unfolding words_of columns_of
all_x_free set w l = x_free_listed (width_of set) (columns_of set) w l

-- where planning gives 17, every signature of the register's width is explained
pub seventeen_explained : (set : List ℕ) (k l : ℕ) → plan_reply set k l ≡ refusal 17 → (y : ℕ) → y < 2 ^ width_of set → Explained set y
seventeen_explained set k l h =
    let why = planned.seventeen_only_empty set k l h in
    explaining.xor_all set why.0
    (only_empty_explains (width_of set) (columns_of set) (columns_of_within set why.0) why.1)

-- where every signature of the register's width is explained, and no number before 17 applies, planning gives 17
pub explained_seventeen : (set : List ℕ) (k l : ℕ) → first_of (earlier_tests set k) ≡ 0
    → ((y : ℕ) → y < 2 ^ width_of set → Explained set y) → plan_reply set k l ≡ refusal 17
explained_seventeen set k l h f =
    let taken : Accepted set = accepted set (earlier_set set k h) in
    planned.only_empty_seventeen set k l h
    (explains_only_empty (width_of set) (columns_of set) (columns_of_within set taken) (explaining.all_xor set taken f))
