use Rattle.std.proofs.Common.{◌≡◌, ℕ, ◌+◌, ◌-◌, ◌≤◌, List, length, take, drop, Ok, Err, Result, sym, ap, ◌∙◌, subst, arith}
use Rattle.std.proofs.lemmas.List.{take_rest}
use Rattle.std.proofs.lemmas.Result.{err_from_is_err_and}
use Rattle.std.proofs.lemmas.Bool.{cond-false, le-ltb}
use Rattle.graph.specs.declared.faults.FileFault.{FileFault}
use Rattle.graph.specs.declared.faults.InRecord.{InRecord}
use Rattle.graph.specs.Reading.{Cursor, ReadRecord, first_cursor, record_at, scan}
use Rattle.graph.specs.Limits.{max_bytes}
use Rattle.graph.specs.Gathered.{Gathered, gathered, gathered_in, gathered_by}
use Rattle.graph.specs.Views.{cursor_view, read_record_view, keys, Fits}
use Rattle.graph.proofs.Links.{keys_length}
use Rattle.graph.proofs.Gathers.{loop-stops, loop-goes, loop-ends, next-within, found-fits, packages-step, dependencies-step}
use Rattle.graph.proofs.reading.first_reading.Goals as goal

-- the size is right, so the records decide
sized : (file : List ℕ) → length file ≤ max_bytes → gathered first_cursor (scan first_cursor file) ≡ gathered_in file
sized file l = sym (cond-false _ _ _ (le-ltb max_bytes (length file) l))

-- what is read at the place where the reading stands, of the bytes that are left
here : (file : List ℕ) (st : Cursor) (r : Result ReadRecord InRecord) → r ≡ record_at st (take (length file - st.start) (drop st.start file)) → record_at st (drop st.start file) ≡ r
here file st r e = ap (record_at st) (sym (take_rest file st.start)) ∙ sym e

-- what `?` hands on is the error of the call: the library's lemma says so in two halves, and a lemma of one would only put them together
pub returns-in_err-found-clause-value : goal.returns-in_err-found-clause-value
returns-in_err-found-clause-value c =
    let i = c.loop-found.index in
    let file = c.args.index.now.file.now in
    let st : Cursor = cursor_view c.loop-found.cursor (keys i) in
    let p = err_from_is_err_and c.from_residual.result c.from_residual.ensures.1 in
    ap (λ r. gathered_by r (keys i)) (p.1 ∙ ap (λ y. Err y) p.2) ∙ loop-stops file st _ c.loop-found.invariant.5 _ (here file st _ c.in_err-found.ensures) ∙ sized file c.if-file-gt-MAX_BYTES.false

pub returns-then-is_end-clause-value : goal.returns-then-is_end-clause-value
returns-then-is_end-clause-value c =
    let i = c.loop-found.index in
    let file = c.args.index.now.file.now in
    let st : Cursor = cursor_view c.loop-found.cursor (keys i) in
    loop-ends file st _ c.loop-found.invariant.5 (read_record_view c.in_ok-found.found) (here file st _ c.in_ok-found.ensures) (sym c.is_end.ensures ∙ c.if-is_end.true) ∙ sized file c.if-file-gt-MAX_BYTES.false

pub cursor_after-cursor-requires : goal.cursor_after-cursor-requires
cursor_after-cursor-requires c =
    let i = c.loop-found.index in
    let file = c.args.index.now.file.now in
    let st : Cursor = cursor_view c.loop-found.cursor (keys i) in
    let x = read_record_view c.in_ok-found.found in
    let h : record_at st (drop st.start file) ≡ Ok x = here file st _ c.in_ok-found.ensures in
    let room : i.lists.count ≤ length i.lists.entries = omega (arith, i.few, i.linked.full) in
    let n : length (keys i) ≡ i.lists.count = keys_length i.lists.entries i.lists.count room in
    let inside = next-within file st _ c.loop-found.invariant.5 x h c.loop-found.invariant.0 in
    let limit = c.if-file-gt-MAX_BYTES.false in
    let same : length i.file.now ≡ length file = ap length c.loop-found.invariant.4 in
    record {
      fits = subst (λ k. Fits k c.in_ok-found.found.content) n (found-fits st (drop st.start file) c.in_ok-found.found h);
      small = (omega (arith, inside, limit), omega (arith, c.loop-found.invariant.0, c.loop-found.invariant.1, limit), omega (arith, c.loop-found.invariant.0, c.loop-found.invariant.1, c.loop-found.invariant.2, limit), omega (arith, c.loop-found.invariant.0, c.loop-found.invariant.1, c.loop-found.invariant.3, limit), omega (arith, limit, same));
    }

pub loop-found-preserved : goal.loop-found-preserved
loop-found-preserved c =
    let i = c.loop-found.index in
    let file = c.args.index.now.file.now in
    let st : Cursor = cursor_view c.loop-found.cursor (keys i) in
    let x = read_record_view c.in_ok-found.found in
    let h : record_at st (drop st.start file) ≡ Ok x = here file st _ c.in_ok-found.ensures in
    let e = c.cursor_after-cursor.ensures.cursor in
    let inside = next-within file st _ c.loop-found.invariant.5 x h c.loop-found.invariant.0 in
    let more = loop-goes file st _ c.loop-found.invariant.5 x h (sym c.is_end.ensures ∙ c.if-is_end.false) in (
      omega (arith, inside, ap (λ s. s.start) e),
      omega (arith, c.loop-found.invariant.1, ap (λ s. s.start) e, ap (λ s. s.number) e),
      omega (arith, c.loop-found.invariant.2, packages-step x.content st.packages, ap (λ s. s.packages) e, ap (λ s. s.number) e),
      omega (arith, c.loop-found.invariant.3, dependencies-step x.content st.dependencies, ap (λ s. s.dependencies) e, ap (λ s. s.number) e),
      c.cursor_after-cursor.ensures.file ∙ c.loop-found.invariant.4,
      ap (λ s. gathered s (scan s (drop s.start file))) e ∙ more,
    )

-- a record that is read stands inside the file
inside_file : (file : List ℕ) (st : Cursor) (g : Result Gathered FileFault) (x : ReadRecord) → gathered st (scan st (drop st.start file)) ≡ g → Ok x ≡ record_at st (take (length file - st.start) (drop st.start file)) → st.start ≤ length file → length file ≤ max_bytes → st.start + (length x.frame.body + 6) ≤ max_bytes
inside_file file st g x e h low limit = omega (arith, next-within file st g e x (here file st (Ok x) h) low, limit)

pub overflow_add-result : goal.overflow_add-result
overflow_add-result c =
    let i = c.loop-found.index in
    omega (arith, inside_file c.args.index.now.file.now (cursor_view c.loop-found.cursor (keys i)) _ (read_record_view c.in_ok-found.found) c.loop-found.invariant.5 c.in_ok-found.ensures c.loop-found.invariant.0 c.if-file-gt-MAX_BYTES.false)

pub overflow_add-result-then-is_end : goal.overflow_add-result-then-is_end
overflow_add-result-then-is_end c =
    let i = c.loop-found.index in
    omega (arith, inside_file c.args.index.now.file.now (cursor_view c.loop-found.cursor (keys i)) _ (read_record_view c.in_ok-found.found) c.loop-found.invariant.5 c.in_ok-found.ensures c.loop-found.invariant.0 c.if-file-gt-MAX_BYTES.false)
