-- `fill_words` meets its contract: each way out by its law.
use mathlib.Core.Path.{◌≡◌, sym, ap, ◌∙◌}
use native.Mathlib.Omega.{arith}
use mathlib.Core.List.{◌++◌}
use Prim.Native.Nat.{◌+◌, ◌≤◌}
use lib.ListN.{length, take, drop, length-append}
use lib.Seq.{length-take-le, take-append-le}
use Rattle.word.specs.Reply.{front}
use Rattle.word.specs.Zeros.{zeros}
use Rattle.word.proofs.FrontLaws.{front_length, length_zeros}
use Rattle.combinations.specs.Step.{units}
use Rattle.combinations.proofs.Units.{length_units, units_front}
use Rattle.set_file.specs.Reading.{TakenFrom}
use Rattle.kept_words.specs.Working.{words_of, working_places}
use Rattle.signatures.proofs.TakenLaws.{own_width}
use Rattle.kept_words.proofs.KeptLaws.{ends_14, ends_17, ends_18, ends_words, cleared_places, put_short_14, put_room, put_behind, put_cleared}
use Rattle.kept_words.proofs.fill_words.Goals as goal
use Rattle.kept_words.proofs.fill_words.Goals.{After-clear_words, After-reduce_symbols-q, After-unit_words-held}

pub overflow_add-places : goal.overflow_add-places
overflow_add-places c = omega (arith, c.put_symbols-symbols.ensures.few)

pub returns-then-is_short : goal.returns-then-is_short
returns-then-is_short c =
    let put = c.put_symbols-symbols in
    λ taken.
    let short = put_short_14 _ c.args.working.now _ _ (put.ensures.symbols taken) put.auto.working c.if-is_short.true in
    ends_14 _ c.args.working.now _ c.args.words.now short.0 short.1

-- the words of single bits, as many as the register is wide
width_inside : (c : After-unit_words-held) → c.width_limit-width.result ≤ length c.unit_words-held.result
width_inside c = omega (arith, c.width_limit-width.ensures, ap length c.unit_words-held.ensures, length_units 64)

kept : (c : After-reduce_symbols-q) → TakenFrom c.args.set.now c.args.taken
    → (c.reduce_symbols-q.result ≡ length (words_of c.args.set.now)) × (take c.reduce_symbols-q.result c.reduce_symbols-q.new.held ≡ words_of c.args.set.now)
kept c taken =
    let width = c.width_limit-width in
    let put = c.put_symbols-symbols in
    let room : 64 + c.put_symbols-symbols.result ≤ length c.put_symbols-symbols.new.working = c.if-is_short.false in
    c.reduce_symbols-q.ensures.words taken (omega (arith, length-take-le (64 + c.put_symbols-symbols.result) c.put_symbols-symbols.new.working room))
    (put_behind _ c.args.working.now _ _ (put.ensures.symbols taken) put.auto.working room)
    (ap (take width.result) c.unit_words-held.ensures ∙ units_front width.result (omega (arith, width.ensures)) ∙ ap units (width.ensures ∙ own_width _ _ taken))

few : (c : After-reduce_symbols-q) → c.reduce_symbols-q.result ≤ length c.reduce_symbols-q.new.held
few c = omega (arith, c.reduce_symbols-q.ensures.left, c.reduce_symbols-q.auto.held)

held-few : (c : After-reduce_symbols-q) → c.reduce_symbols-q.result ≤ length (c.reduce_symbols-q.new.held ++ drop c.width_limit-width.result c.unit_words-held.result)
held-few c =
    let few : c.reduce_symbols-q.result ≤ length c.reduce_symbols-q.new.held = (omega (arith, c.reduce_symbols-q.ensures.left, c.reduce_symbols-q.auto.held)) in
    omega (arith, few, length-append c.reduce_symbols-q.new.held (drop c.width_limit-width.result c.unit_words-held.result))

written_long : (c : After-reduce_symbols-q) → 64 + c.put_symbols-symbols.result ≤ length (c.reduce_symbols-q.new.working ++ drop (64 + c.put_symbols-symbols.result) c.put_symbols-symbols.new.working)
written_long c =
    omega (arith, length-append c.reduce_symbols-q.new.working (drop (64 + c.put_symbols-symbols.result) c.put_symbols-symbols.new.working), c.reduce_symbols-q.auto.working, length-take-le (64 + c.put_symbols-symbols.result) c.put_symbols-symbols.new.working c.if-is_short.false)

still-long : (c : After-clear_words) → length (c.clear_words.new.words ++ drop (64 + c.put_symbols-symbols.result) (c.reduce_symbols-q.new.working ++ drop (64 + c.put_symbols-symbols.result) c.put_symbols-symbols.new.working)) ≡ length c.put_symbols-symbols.new.working
still-long c =
    ap length (cleared_places (64 + c.put_symbols-symbols.result) c.put_symbols-symbols.new.working c.reduce_symbols-q.new.working c.clear_words.new.words c.if-is_short.false c.reduce_symbols-q.auto.working c.clear_words.ensures)
    ∙ front_length (zeros (64 + c.put_symbols-symbols.result)) c.put_symbols-symbols.new.working (omega (arith, length_zeros (64 + c.put_symbols-symbols.result), c.if-is_short.false))

-- past 14 the working list has the places, and they are cleared
room : (c : After-clear_words) → TakenFrom c.args.set.now c.args.taken → working_places c.args.set.now ≤ length c.args.working.now
room c taken =
    let put = c.put_symbols-symbols in
    put_room _ c.args.working.now c.put_symbols-symbols.new.working _ (put.ensures.symbols taken) put.auto.working c.if-is_short.false

cleared : (c : After-clear_words) → TakenFrom c.args.set.now c.args.taken
    → c.clear_words.new.words ++ drop (64 + c.put_symbols-symbols.result) (c.reduce_symbols-q.new.working ++ drop (64 + c.put_symbols-symbols.result) c.put_symbols-symbols.new.working) ≡ front (zeros (working_places c.args.set.now)) c.args.working.now
cleared c taken =
    let put = c.put_symbols-symbols in
    put_cleared _ c.args.working.now c.put_symbols-symbols.new.working _ (put.ensures.symbols taken) put.auto.working c.if-is_short.false
    c.reduce_symbols-q.new.working c.clear_words.new.words c.reduce_symbols-q.auto.working c.clear_words.ensures

pub slice_bounds-reduce_symbols-end-2 : goal.slice_bounds-reduce_symbols-end-2
slice_bounds-reduce_symbols-end-2 c = sym (length-take-le (64 + c.put_symbols-symbols.result) c.put_symbols-symbols.new.working c.if-is_short.false)

pub slice_bounds-held-end : goal.slice_bounds-held-end
slice_bounds-held-end c = width_inside (goal.at.slice_bounds-held-end c).After-unit_words-held

pub slice_bounds-reduce_symbols-end-3 : goal.slice_bounds-reduce_symbols-end-3
slice_bounds-reduce_symbols-end-3 c = sym (length-take-le _ _ (width_inside (goal.at.slice_bounds-reduce_symbols-end-3 c).After-unit_words-held))

pub slice_bounds-clear_words-end : goal.slice_bounds-clear_words-end
slice_bounds-clear_words-end c = written_long (goal.at.slice_bounds-clear_words-end c).After-reduce_symbols-q

pub slice_bounds-clear_words-end-2 : goal.slice_bounds-clear_words-end-2
slice_bounds-clear_words-end-2 c = sym (length-take-le (64 + c.put_symbols-symbols.result) (c.reduce_symbols-q.new.working ++ drop (64 + c.put_symbols-symbols.result) c.put_symbols-symbols.new.working) (written_long (goal.at.slice_bounds-clear_words-end-2 c).After-reduce_symbols-q))

pub shape_of-working-then-q-eq0 : goal.shape_of-working-then-q-eq0
shape_of-working-then-q-eq0 c = still-long (goal.at.shape_of-working-then-q-eq0 c).After-clear_words ∙ c.put_symbols-symbols.auto.working

pub returns-then-q-eq0 : goal.returns-then-q-eq0
returns-then-q-eq0 c =
    λ taken.
    ends_17 _ c.args.working.now c.args.words.now _ (room (goal.at.returns-then-q-eq0 c).After-clear_words taken) (cleared (goal.at.returns-then-q-eq0 c).After-clear_words taken) _
    (kept (goal.at.returns-then-q-eq0 c).After-reduce_symbols-q taken).0 c.if-q-eq0.true

pub shape_of-working-then-words-q : goal.shape_of-working-then-words-q
shape_of-working-then-words-q c = still-long (goal.at.shape_of-working-then-words-q c).After-clear_words ∙ c.put_symbols-symbols.auto.working

pub returns-then-words-q : goal.returns-then-words-q
returns-then-words-q c =
    λ taken.
    ends_18 _ c.args.working.now c.args.words.now _ (room (goal.at.returns-then-words-q c).After-clear_words taken) (cleared (goal.at.returns-then-words-q c).After-clear_words taken) _
    (kept (goal.at.returns-then-words-q c).After-reduce_symbols-q taken).0 c.if-q-eq0.false c.if-words-q.true

pub slice_bounds-held-end-2 : goal.slice_bounds-held-end-2
slice_bounds-held-end-2 c = held-few (goal.at.slice_bounds-held-end-2 c).After-reduce_symbols-q

pub slice_bounds-write_front-end : goal.slice_bounds-write_front-end
slice_bounds-write_front-end c = sym (length-take-le _ _ (held-few (goal.at.slice_bounds-write_front-end c).After-reduce_symbols-q))

pub shape_of-working : goal.shape_of-working
shape_of-working c = still-long (goal.at.shape_of-working c).After-clear_words ∙ c.put_symbols-symbols.auto.working

pub shape_of-words : goal.shape_of-words
shape_of-words c = c.write_front.auto.words

pub returns : goal.returns
returns c =
    let reduced = c.reduce_symbols-q in
    λ taken.
    ends_words _ c.args.working.now c.args.words.now _ (room (goal.at.returns c).After-clear_words taken) (cleared (goal.at.returns c).After-clear_words taken) _
    (kept (goal.at.returns c).After-reduce_symbols-q taken).0 c.if-q-eq0.false _ _ c.if-words-q.false
    (take-append-le reduced.result reduced.new.held (drop c.width_limit-width.result c.unit_words-held.result) (few (goal.at.returns c).After-reduce_symbols-q) ∙ (kept (goal.at.returns c).After-reduce_symbols-q taken).1)
    c.write_front.ensures
