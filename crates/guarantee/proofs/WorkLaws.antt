-- Each way out of making a plan, of judging a record's signature, and of judging records by the plan of their set. Assumes nothing.
use mathlib.Core.Path.{◌≡◌, refl, sym, ap, ap₂, ◌∙◌, subst}
use mathlib.Core.List.{List}
use Prim.Native.Nat.{ℕ, ◌≤◌}
use lib.ListN.{length, take}
use Rattle.word.specs.Parities.{parities}
use Rattle.word.specs.Reply.{Reply, answer, refusal, first_of, lent, after}
use Rattle.word.proofs.ReplyLaws.{answered_part, after_answer}
use Rattle.word.proofs.TestLaws.{replied_answer}
use Rattle.signing.specs.Signing.{sign_reply, said_signed}
use Rattle.kept_words.specs.Working.{words_of}
use Rattle.planner.specs.Planning.{expected_of, working_left, PlanParts, parts_of, plan_reply, said as said_planned}
use Rattle.planner.specs.declared.Planned.{Planned}
use Rattle.planner.proofs.CallLaws.{Ends, words_front}
use Rattle.plan_file.specs.Layout.{plan_length}
use Rattle.plan_writer.specs.Writing.{plan_content, word_count, plan_bytes, plan_write_tests, plan_write_reply, said as said_written}
use Rattle.plan_writer.proofs.WriteLaws.{length_plan_bytes}
use Rattle.judge.specs.Verdict.{Finding, verdict, judge_reply, said}
use Rattle.judge.specs.declared.Judgment.{Judgment}
use Rattle.std.specs.Prelude.{Result, Ok, Err}
use Rattle.refusals.specs.declared.Refusal.{Refusal}
use Rattle.refusals.specs.Refusals.{number}
use Rattle.guarantee.specs.Demand.{AlikeObeying, plan_file}
use Rattle.guarantee.specs.AtWork.{made_reply, plan_of, file_after, signed_reply, record_reply}
use Rattle.guarantee.proofs.Theorems.{planned_parts, plan_written, plan_judged, signed_within, same_for_alike_records}

-- ---- making the plan

-- what making the plan leaves in the column list cs, the word list ws and the output file
abbrev pub Left : List ℕ → List ℕ → List ℕ → List ℕ → List ℕ → List ℕ → List ℕ → Type 0
Left set cs ws file cs' ws' file' =
    (cs' ≡ working_left set cs)
    × ((ws' ≡ lent (plan_reply set (length cs) (length ws)) (words_of set) ws) × (file' ≡ file_after set (length cs) (length ws) file))

-- .. and what it answers, a
abbrev pub Made : List ℕ → List ℕ → List ℕ → List ℕ → Reply ℕ → List ℕ → List ℕ → List ℕ → Type 0
Made set cs ws file a cs' ws' file' =
    (a ≡ made_reply set (length cs) (length ws) (length file)) × Left set cs ws file cs' ws' file'

module _ (set cs ws cs' ws' : List ℕ) (p : Result Planned Refusal) (ends : Ends set cs ws p cs' ws') where
  -- planning refused
  pub made_unplanned : (file : List ℕ) (r : Result ℕ Refusal) (e : Refusal) → r ≡ Err e → p ≡ Err e → Made set cs ws file (said_written r) cs' ws' file
  unfolding made_reply file_after
  made_unplanned file r e is h =
      let refused : plan_reply set (length cs) (length ws) ≡ refusal (number e) = sym ends.0 ∙ ap said_planned h in
      let made : made_reply set (length cs) (length ws) (length file) ≡ refusal (number e) = rw refused in
      (ap said_written is ∙ sym made, (ends.1.0, (ends.1.1, sym (ap (λ (x : Reply ℕ). lent x (plan_of set) file) made))))

  -- planning answered
  module _ (k : Planned) (h : p ≡ Ok k) where
    abbrev m : ℕ
    m = k.m

    abbrev q : ℕ
    q = k.q

    abbrev e : ℕ
    e = k.expected

    abbrev parts : PlanParts
    parts = record { m = m; q = q; expected = e }

    planned : plan_reply set (length cs) (length ws) ≡ answer parts
    planned = sym ends.0 ∙ ap said_planned h

    -- the words stand at the front
    pub planned_words : (q ≤ length ws') × (take q ws' ≡ words_of set)
    planned_words = words_front set ws ws' (length cs) parts planned ends.1.1

    pub made_planned : (file file' : List ℕ) (a : Reply ℕ) → a ≡ plan_write_reply (plan_content m (take q ws') e) (length file)
        → file' ≡ lent (plan_write_reply (plan_content m (take q ws') e) (length file)) (plan_bytes (plan_content m (take q ws') e)) file
        → Made set cs ws file a cs' ws' file'
    unfolding made_reply plan_of file_after plan_file
    made_planned file file' a ha hf =
        let made : made_reply set (length cs) (length ws) (length file) ≡ plan_write_reply (plan_content m (words_of set) e) (length file) = rw planned in
        let plan : plan_of set ≡ plan_bytes (plan_content m (words_of set) e) =
        ap (plan_file set) (sym (planned_parts set (length cs) (length ws) parts planned)) in (
          ha ∙ ap (λ (l : List ℕ). plan_write_reply (plan_content m l e) (length file)) planned_words.1 ∙ sym made,
          (
            ends.1.0,
            (
              ends.1.1,
              hf
                  ∙ ap (λ (l : List ℕ). lent (plan_write_reply (plan_content m l e) (length file)) (plan_bytes (plan_content m l e)) file) planned_words.1
                  ∙ sym (ap₂ (λ (r : Reply ℕ) (l : List ℕ). lent r l file) made plan),
            ),
          ),
        )

-- ---- judging a record's signature by a plan file

module _ (set r plan : List ℕ) (s : Result ℕ Refusal) (es : said_signed s ≡ sign_reply set r) where
  pub signed_refused : (x : Result Judgment Refusal) (e : Refusal) → x ≡ Err e → s ≡ Err e → said x ≡ signed_reply set r plan
  unfolding signed_reply
  signed_refused x e is h =
      ap said is ∙ sym (ap (λ (a : Reply ℕ). after a (λ y. judge_reply plan y)) (sym es ∙ ap said_signed h))

  pub signed_judged : (y : ℕ) (a : Reply Finding) → s ≡ Ok y → a ≡ judge_reply plan y → a ≡ signed_reply set r plan
  unfolding signed_reply
  signed_judged y a e h =
      h ∙ sym (ap (λ (x : Reply ℕ). after x (λ y. judge_reply plan y)) (sym es ∙ ap said_signed e))

-- ---- two records that are alike in every known cell

module _ (set r v : List ℕ) (k l room y z : ℕ) (hr : sign_reply set r ≡ answer y) (hv : sign_reply set v ≡ answer z) (a : AlikeObeying set r v) where
  alike_judged : (n : ℕ) → made_reply set k l room ≡ answer n → signed_reply set r (plan_of set) ≡ signed_reply set v (plan_of set)
  unfolding made_reply signed_reply plan_of
  alike_judged n h =
      let step = after_answer (plan_reply set k l) (λ p. plan_write_reply (plan_content p.m (words_of set) p.expected) room) n h in
      let same : judge_reply (plan_file set (parts_of set)) y ≡ judge_reply (plan_file set (parts_of set)) z =
      subst (λ (p : PlanParts). judge_reply (plan_file set p) y ≡ judge_reply (plan_file set p) z) (planned_parts set k l step.0 step.1)
      (same_for_alike_records set k l step.0 r v y z step.1 hr hv a)
      in
      rw (hr, hv) same

  pub alike_records : record_reply set r k l room ≡ record_reply set v k l room
  unfolding record_reply
  alike_records = go (made_reply set k l room) refl
    where
      go : (m : Reply ℕ) → made_reply set k l room ≡ m
          → after m (λ n. signed_reply set r (plan_of set)) ≡ after m (λ n. signed_reply set v (plan_of set))
      go (answer n) h = alike_judged n h
      go (refusal n) h = refl

-- ---- judging records by the plan of their set

-- making the plan answers with the length of the plan file
made_length : (set : List ℕ) (k l room n : ℕ) → made_reply set k l room ≡ answer n → n ≡ length (plan_of set)
unfolding made_reply plan_write_reply plan_of plan_file
made_length set k l room n h =
    let step = after_answer (plan_reply set k l) (λ p. plan_write_reply (plan_content p.m (words_of set) p.expected) room) n h in
    let written = plan_content step.0.m (words_of set) step.0.expected in
    (replied_answer (first_of (plan_write_tests written room)) (plan_length (word_count written)) n step.2).1
    ∙ sym (length_plan_bytes (plan_content (parts_of set).m (words_of set) (parts_of set).expected))

module _ (set cs ws file cs' ws' file' : List ℕ) (w : Result ℕ Refusal) (made : Made set cs ws file (said_written w) cs' ws' file') where
  -- what a record r gets: a
  abbrev pub Got : List ℕ → Reply Finding → Type 0
  Got r a = a ≡ record_reply set r (length cs) (length ws) (length file)

  -- no plan was made
  pub got_refused : (r : List ℕ) (x : Result Judgment Refusal) (e : Refusal) → x ≡ Err e → w ≡ Err e → Got r (said x)
  unfolding record_reply
  got_refused r x e is h =
      ap said is ∙ sym (ap (λ (a : Reply ℕ). after a (λ n. signed_reply set r (plan_of set))) (sym made.0 ∙ ap said_written h))

  module _ (n : ℕ) (e : w ≡ Ok n) where
    answered : made_reply set (length cs) (length ws) (length file) ≡ answer n
    answered = sym made.0 ∙ ap said_written e

    -- the plan file stands at the front
    pub made_file : (n ≤ length file') × (take n file' ≡ plan_of set)
    unfolding file_after
    made_file =
        answered_part (made_reply set (length cs) (length ws) (length file)) n (plan_of set) file file' n answered made.1.1.1
        (made_length set (length cs) (length ws) (length file) n answered)

    pub got_judged : (r : List ℕ) (a : Reply Finding) → a ≡ signed_reply set r (take n file') → Got r a
    unfolding record_reply
    got_judged r a h =
        h ∙ ap (signed_reply set r) made_file.1 ∙ sym (ap (λ (x : Reply ℕ). after x (λ n. signed_reply set r (plan_of set))) answered)

-- ---- two records

-- what judging the records r and v answers, a and b, and leaves in the lists
abbrev pub Both : List ℕ → List ℕ → List ℕ → List ℕ → List ℕ → List ℕ → Reply Finding → Reply Finding → List ℕ → List ℕ → List ℕ → Type 0
Both set r v cs ws file a b cs' ws' file' =
    (a ≡ record_reply set r (length cs) (length ws) (length file))
    × ((b ≡ record_reply set v (length cs) (length ws) (length file))
    × (((y z : ℕ) → sign_reply set r ≡ answer y → sign_reply set v ≡ answer z → AlikeObeying set r v → a ≡ b)
    × Left set cs ws file cs' ws' file'))

pub both : (set r v cs ws file cs' ws' file' : List ℕ) (a b : Reply Finding) → a ≡ record_reply set r (length cs) (length ws) (length file)
    → b ≡ record_reply set v (length cs) (length ws) (length file) → Left set cs ws file cs' ws' file'
    → Both set r v cs ws file a b cs' ws' file'
both set r v cs ws file cs' ws' file' a b ha hb left = (
  ha,
  (hb, ((λ y z hr hv k. ha ∙ alike_records set r v (length cs) (length ws) (length file) y z hr hv k ∙ sym hb), left)),
)

-- ---- what is left to meet

-- where planning and signing answer and the output has room, judging answers: its own numbers never come up
pub record_judged : (set r : List ℕ) (k l room : ℕ) (p : PlanParts) (y : ℕ) → plan_reply set k l ≡ answer p → plan_length p.q ≤ room
    → sign_reply set r ≡ answer y
    → record_reply set r k l room
    ≡ answer (record { cancelled = parities (words_of set) y; outcome = verdict (words_of set) (expected_of set) y })
unfolding record_reply made_reply signed_reply plan_of
record_judged set r k l room p y hp hl hs =
    rw (hp, plan_written set k l room p hp hl, hs)
    (ap (λ (x : PlanParts). judge_reply (plan_file set x) y) (sym (planned_parts set k l p hp)) ∙ plan_judged set k l p y hp (signed_within set r y hs))
