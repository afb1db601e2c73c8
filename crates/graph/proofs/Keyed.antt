-- The first reading of a graph: what it gathers, and that it gathers just where it reads a graph.
use Rattle.std.proofs.Common.{◌≡◌, ℕ, suc, ◌+◌, Bool, true, false, cond, ltb, List, [], ◌∷◌, length, get_or, Ok, Err, sym, refl, ap, ◌∙◌, subst, arith, w8, Fits}
use Rattle.std.proofs.lemmas.List.{length-append}
use Rattle.std.proofs.lemmas.Bool.{cond-false, le-ltb}
use Rattle.records.specs.Graphs.{Declaration, dependency, feature, Graph}
use Rattle.records.specs.Encoding.{Bytes}
use Rattle.records.proofs.Numbers.{not-both, in-ok}
use Rattle.graph.specs.declared.contents.Counts.{Counts}
use Rattle.graph.specs.declared.faults.FileFault.{FileFault}
use Rattle.graph.specs.declared.faults.FileFault.TheVariants.{Size}
use Rattle.graph.specs.declared.index.Index.{Index}
use Rattle.graph.specs.Reading.{first_cursor, Reading, scan, graph_in, first_reading}
use Rattle.graph.specs.Limits.{max_bytes}
use Rattle.graph.specs.Law.{features_in, dependency_count, feature_count, Says}
use Rattle.graph.specs.Gathered.{keys_in, keys_from, Gathered, gathered, gathered_in, gathered_by}
use Rattle.graph.specs.Views.{keys}
use Rattle.graph.specs.Directory.{Accepted}
use Rattle.graph.proofs.Links.{keys_length}
use Rattle.graph.proofs.FirstSound.{first-sound}
use Rattle.graph.proofs.FirstComplete.{scan-complete}

-- what a slice of bytes holds
pub bytes_fit : (bs : List ℕ) → ((i : ℕ) → Fits w8 (get_or bs i 0)) → Bytes bs
bytes_fit [] h = tt
bytes_fit (b ∷ bs) h = (omega (arith, h 0), bytes_fit bs (λ i. h (suc i)))

-- as many keys as features
own_keys : (p : ℕ) (ps : List Declaration) → length (keys_in p ps) ≡ length (features_in ps)
own_keys p [] = refl
own_keys p (dependency x ∷ ps) = own_keys p ps
own_keys p (feature x ∷ ps) = omega (arith, own_keys p ps)

pub keys-count : (p : ℕ) (g : Graph) → length (keys_from p g) ≡ feature_count g
keys-count p [] = refl
keys-count p (a ∷ g) = omega (arith, length-append (keys_in p a.declarations) (keys_from (p + 1) g), own_keys p a.declarations, keys-count (p + 1) g)

-- all that is gathered of a graph of n bytes
abbrev pub all_of : Graph → ℕ → Gathered
all_of g n = record { read = n; packages = length g; dependencies = dependency_count g; keys = keys_from 0 g }

pub scan-keyed : (file : List ℕ) → Bytes file → (g : Graph) (n : ℕ) → first_reading file ≡ Ok (g, n) → gathered first_cursor (scan first_cursor file) ≡ Ok (all_of g n)
scan-keyed file fit g n e =
    let s = first-sound file fit g n e in
    let p : 0 + length g ≡ length g = omega arith in
    let d : 0 + (0 + dependency_count g) ≡ dependency_count g = omega arith in
    ap (gathered first_cursor) (scan-complete file g s.0) ∙ (λ i. Ok (record { read = sym s.1 i; packages = p i; dependencies = d i; keys = keys_from 0 g }))

pub keyed : (file : List ℕ) → Bytes file → (g : Graph) (n : ℕ) → first_reading file ≡ Ok (g, n) → gathered_in file ≡ Ok (all_of g n)
keyed file fit g n e = cond-false _ _ _ (le-ltb max_bytes (length file) (first-sound file fit g n e).0.size) ∙ scan-keyed file fit g n e

-- where something is gathered, a graph is read
pub gathered-read : (file : List ℕ) (x : Gathered) → gathered_in file ≡ Ok x → (g : Graph) × (n : ℕ) × (first_reading file ≡ Ok (g, n))
gathered-read file x e = go (ltb max_bytes (length file)) refl (scan first_cursor file) refl e
  where
    go : (t : Bool) → ltb max_bytes (length file) ≡ t → (r : Reading) → scan first_cursor file ≡ r → cond t (Err Size) (gathered first_cursor r) ≡ Ok x → (g : Graph) × (n : ℕ) × (first_reading file ≡ Ok (g, n))
    go true q r o h = absurd (not-both h)
    go false q (Err f) o h = absurd (not-both h)
    go false q (Ok p) o h = (p.0.packages, p.1, cond-false _ _ _ q ∙ ap graph_in o)

-- what the first reading leaves of a file that it accepts
pub accepted : (file : List ℕ) → Bytes file → (index : Index) (counts : Counts) → index.file.now ≡ file → counts.features ≡ index.lists.count → gathered_by (Ok counts) (keys index) ≡ gathered_in file → (g : Graph) × (first_reading file ≡ Ok (g, counts.read)) × Accepted index counts g
accepted file fit index counts same featured e =
    let r = gathered-read file (record { read = counts.read; packages = counts.packages; dependencies = counts.dependencies; keys = keys index }) (sym e) in
    let g : Graph = r.0 in
    let s = first-sound file fit g r.1 r.2 in
    let all = in-ok {Y = FileFault} (record { read = counts.read; packages = counts.packages; dependencies = counts.dependencies; keys = keys index }) (all_of g r.1) (e ∙ keyed file fit g r.1 r.2) in
    let n : length (keys index) ≡ index.lists.count = keys_length index.lists.entries index.lists.count (omega (arith, index.few, index.linked.full)) in
    let f : counts.features ≡ feature_count g = featured ∙ sym n ∙ ap (λ x. length x.keys) all ∙ keys-count 0 g in (
      g,
      r.2 ∙ ap (λ x. Ok (g, x.read)) (sym all),
      record {
        says = subst (λ x. Says x g) (sym same) s.0;
        keyed = ap (λ x. x.keys) all;
        counted = λ i. record { read = (ap (λ x. x.read) all ∙ s.1) i; packages = (all i).packages; dependencies = (all i).dependencies; features = f i };
      },
    )
