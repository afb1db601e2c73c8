-- What a search for the first entry says of the rows that it passes, and of the row where it ends.
use Rattle.std.proofs.Common.{◌≡◌, ℕ, zero, suc, ◌+◌, ◌-◌, ◌<◌, ◌≤◌, Some, None, Option, sym, refl, ap, ◌∙◌, ⊎_elim, arith}
use Rattle.std.proofs.lemmas.Bool.{cases_eq}
use Rattle.rulebook.specs.declared.entries.WatchEntry.{WatchEntry}
use Rattle.rulebook.specs.declared.entries.RowEntry.{RowEntry}
use Rattle.rulebook.specs.Tables.{Table, or_later, first_of, seek}

-- no row from r on and below n has an entry
abbrev pub Bare : (ℕ → Option WatchEntry) → ℕ → ℕ → Type 0
Bare entry r n = (k : ℕ) → r ≤ k → k < n → entry k ≡ None

-- f is the first entry at or after r and below n
pub record First (entry : ℕ → Option WatchEntry) (r n : ℕ) (f : RowEntry) : Type 0 where
  pub from : r ≤ f.row
  pub under : f.row < n
  pub here : entry f.row ≡ Some f.entry
  pub bare : Bare entry r f.row

none_found : (entry : ℕ → Option WatchEntry) (r n : ℕ) → first_of entry r n ≡ None → Bare entry r (r + n)
none_found entry r zero h k lo hi = absurd (omega arith)
none_found entry r (suc n) h k lo hi = go (entry r) refl h (none_found entry (r + 1) n)
  where
    go : (o : Option WatchEntry) → entry r ≡ o → or_later o r (first_of entry (r + 1) n) ≡ None →
        (first_of entry (r + 1) n ≡ None → Bare entry (r + 1) (r + 1 + n)) → entry k ≡ None
    go None q h later = ⊎_elim
        (λ (z : r ≡ k). ap entry (sym z) ∙ q)
        (λ (z : r ≡ k → ⊥). later h k (omega arith) (omega arith))
        (cases_eq r k)
    go (Some e) q h later = cc

some_found : (entry : ℕ → Option WatchEntry) (r n : ℕ) (f : RowEntry) → first_of entry r n ≡ Some f → First entry r (r + n) f
some_found entry r zero f h = absurd (cc)
some_found entry r (suc n) f h = go (entry r) refl h (some_found entry (r + 1) n f)
  where
    go : (o : Option WatchEntry) → entry r ≡ o → or_later o r (first_of entry (r + 1) n) ≡ Some f →
        (first_of entry (r + 1) n ≡ Some f → First entry (r + 1) (r + 1 + n) f) → First entry r (r + suc n) f
    go None q h later =
        let l = later h in
        record {
          from = omega arith;
          under = omega arith;
          here = l.here;
          bare = λ k lo hi. ⊎_elim (λ (z : r ≡ k). ap entry (sym z) ∙ q) (λ (z : r ≡ k → ⊥). l.bare k (omega arith) hi) (cases_eq r k);
        }
    go (Some e) q h later =
        let row : r ≡ f.row = cc in
        let same : e ≡ f.entry = cc in
        record { from = omega arith; under = omega arith; here = ap entry (sym row) ∙ q ∙ ap Some same; bare = λ k lo hi. absurd (omega arith) }

pub seek-none : (table : Table) (i r : ℕ) → seek table i r ≡ None → Bare (table.entry i) r table.rows
seek-none table i r h k lo hi = none_found (table.entry i) r (table.rows - r) h k lo (omega arith)

pub seek-some : (table : Table) (i r : ℕ) (f : RowEntry) → seek table i r ≡ Some f → First (table.entry i) r table.rows f
seek-some table i r f h =
    let found = some_found (table.entry i) r (table.rows - r) f h in
    record { from = found.from; under = omega arith; here = found.here; bare = found.bare }
