-- The index of dependencies, followed from the newest entry of a key on, gives those of a name in file order.
use Rattle.std.proofs.Common.{◌≡◌, ℕ, zero, suc, ◌+◌, ◌-◌, ◌<◌, ◌≤◌, Bool, true, false, cond, List, ◌∷◌, map, length, get_or, drop, Some, sym, refl, ap, ◌∙◌, arith}
use Rattle.std.proofs.lemmas.List.{length-map, length-reverse, get_or-map, get_or-reverse, drop_more}
use Rattle.std.proofs.lemmas.Bool.{cond-true, cond-false}
use Rattle.records.specs.Graphs.{Dependency, Graph}
use Rattle.graph.specs.declared.index.Index.{Index}
use Rattle.graph.specs.Depending.{Depending, depending, dependency_key, Indexed}
use Rattle.graph.specs.Directory.{no_depending}
use Rattle.graph.specs.Keys.{is_key}
use Rattle.graph.specs.Buckets.{key_of, blank, entry_at, past, newest_of}
use Rattle.graph.specs.Namesakes.{among, among_from}
use Rattle.graph.proofs.Links.{keys_length, keys-at}

-- the dependency that is k from the end, with its local number
abbrev pub from_end : Graph → ℕ → ℕ × Dependency
from_end g k = (length g + (length (depending 0 g) - 1 - k), (get_or (depending 0 g) (length (depending 0 g) - 1 - k) no_depending).dependency)

module _ (index : Index) (g : Graph) (named : Indexed index g) where
  abbrev all : List Depending
  all = depending 0 g

  room : index.lists.count ≤ length index.lists.entries
  room = omega (arith, index.few, index.linked.full)

  -- as many entries as dependencies
  pub all-named : index.lists.count ≡ length all
  all-named =
      sym (keys_length index.lists.entries index.lists.count room)
      ∙ ap length named ∙ length-reverse (map dependency_key all) ∙ length-map all dependency_key

  -- entry k is the dependency that is k from the end
  pub entry-named : (k : ℕ) → k < length all → key_of (entry_at index.lists.entries k) ≡ dependency_key (get_or all (length all - 1 - k) no_depending)
  entry-named k l =
      let m = length-map all dependency_key in
      let w : k < length (map dependency_key all) = omega arith in
      let z : length (map dependency_key all) - 1 - k ≡ length all - 1 - k = omega arith in
      let b : k < index.lists.count = omega (arith, all-named) in
      sym (keys-at index.lists.entries index.lists.count k room b)
      ∙ ap (λ ks. get_or ks k (key_of blank)) named
      ∙ get_or-reverse (map dependency_key all) k (key_of blank) w
      ∙ ap (λ i. get_or (map dependency_key all) i (key_of blank)) z
      ∙ get_or-map dependency_key all (length all - 1 - k) no_depending (key_of blank) (omega arith)

  module _ (p : ℕ) (n : List ℕ) where
    -- one dependency, and those after it
    opened : (j : ℕ) → j < length all → among_from g p n j ≡ cond (is_key p n (dependency_key (get_or all j no_depending))) ((length g + j, (get_or all j no_depending).dependency) ∷ among_from g p n (j + 1)) (among_from g p n (j + 1))
    opened j l =
        let z : (length g + j) + 1 ≡ length g + (j + 1) = omega arith in
        ap (among p n (length g + j)) (drop_more all j no_depending l)
        ∙ ap (λ (i : ℕ). cond (is_key p n (dependency_key (get_or all j no_depending))) ((length g + j, (get_or all j no_depending).dependency) ∷ among p n i (drop (j + 1) all)) (among p n i (drop (j + 1) all))) z

    module _ (k : ℕ) (l : k < length all) where
      -- what is left from entry k on
      from-entry : among_from g p n (length all - (k + 1)) ≡ cond (is_key p n (key_of (entry_at index.lists.entries k))) (from_end g k ∷ among_from g p n (length all - k)) (among_from g p n (length all - k))
      from-entry =
          let j : ℕ = length all - 1 - k in
          let i : length all - (k + 1) ≡ j = omega arith in
          let z : j + 1 ≡ length all - k = omega arith in
          ap (among_from g p n) i
          ∙ opened j (omega arith)
          ∙ (λ t. cond (is_key p n (sym (entry-named k l) t)) ((length g + j, (get_or all j no_depending).dependency) ∷ among_from g p n (z t)) (among_from g p n (z t)))

    -- what is left from the newest of the first m entries of the key on is what is left from the first m on
    pub from-newest : (m : ℕ) → m ≤ length all → among_from g p n (length all - past (newest_of index.lists.entries p n m)) ≡ among_from g p n (length all - m)
    from-newest zero l = refl
    from-newest (suc m) l = go (from-newest m (omega arith)) (is_key p n (key_of (entry_at index.lists.entries m))) refl
      where
        z : m + 1 ≡ suc m
        z = omega arith

        go : among_from g p n (length all - past (newest_of index.lists.entries p n m)) ≡ among_from g p n (length all - m) → (t : Bool) → is_key p n (key_of (entry_at index.lists.entries m)) ≡ t → among_from g p n (length all - past (cond t (Some m) (newest_of index.lists.entries p n m))) ≡ among_from g p n (length all - suc m)
        go older true q = ap (λ i. among_from g p n (length all - i)) z
        go older false q =
            older
            ∙ sym (cond-false _ _ _ q)
            ∙ sym (from-entry m (omega arith))
            ∙ ap (λ i. among_from g p n (length all - i)) z

    -- an entry of the key is the next one, and what is left after it begins at the next older entry of the key
    pub next-left : (k : ℕ) → k < length all → is_key p n (key_of (entry_at index.lists.entries k)) ≡ true → among_from g p n (length all - past (Some k)) ≡ from_end g k ∷ among_from g p n (length all - past (newest_of index.lists.entries p n k))
    next-left k l t =
        from-entry k l
        ∙ cond-true _ _ _ t
        ∙ ap (λ ys. from_end g k ∷ ys) (sym (from-newest k (omega arith)))
