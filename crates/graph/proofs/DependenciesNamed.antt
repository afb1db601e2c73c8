-- Filling the index of dependencies from the last record to the first.
use Rattle.std.proofs.Common.{◌≡◌, ℕ, zero, suc, ◌+◌, ◌<◌, ◌≤◌, List, [], ◌∷◌, ◌++◌, map, length, get_or, take, drop, reverse, sym, refl, ap, ◌∙◌, arith}
use Rattle.std.proofs.lemmas.List.{append-nil, append_assoc, map-append, length-append, length-map, length-reverse, length-take, take-take, get_or-take, reverse-append, at_drop_more}
use Rattle.std.proofs.Math.Seq.{take-append_seam, get_or-append_seam}
use Rattle.records.specs.Graphs.{Declaration, dependency, feature, Graph}
use Rattle.records.specs.Encoding.{string, list_bytes, dependency_body, feature_body}
use Rattle.records.specs.Frames.{frame_of}
use Rattle.records.proofs.Framing.{frame-reads}
use Rattle.records.proofs.CodedFields.{name-coded}
use Rattle.graph.specs.declared.tables.DeclarationEntry.{DeclarationEntry}
use Rattle.graph.specs.declared.tables.Directory.{Directory}
use Rattle.graph.specs.Depending.{owned, depending, dependency_key, named_key, key_in, key_if, last_keys}
use Rattle.graph.specs.Directory.{RecordAt, no_declaration_entry, no_place, Places, Tells}
use Rattle.graph.specs.Keys.{Key}
use Rattle.graph.specs.Law.{dependencies_in, dependency_count}
use Rattle.graph.specs.Second.{DeclarationPlace, places_in_package, places_from, declaration_places, package_record, declarations_length}
use Rattle.graph.proofs.DependingPlaces.{depending-length}

-- the front of a record that stands at a place gives its package and name, if it is a dependency
front-key : (file : List ℕ) (start p : ℕ) (x : Declaration) → RecordAt file start x → key_in p (frame_of (drop start file)) ≡ key_if p x
front-key file start p (dependency d) s =
    ap (λ bs. key_in p (frame_of bs)) s.bytes
    ∙ ap (key_in p) (frame-reads 3 (dependency_body d) s.rest)
    ∙ ap (named_key p) (name-coded.complete d.name (list_bytes string d.asks) 11 s.lawful.1)
front-key file start p (feature f) s = ap (λ bs. key_in p (frame_of bs)) s.bytes ∙ ap (key_in p) (frame-reads 4 (feature_body f) s.rest)

-- the keys of one record more
pub keys-more : (xs : List DeclarationPlace) (j : ℕ) → j < length xs → last_keys (drop j xs) ≡ last_keys (drop (j + 1) xs) ++ key_if (get_or xs j no_place).owner (get_or xs j no_place).declaration
keys-more xs j l = at_drop_more last_keys xs j no_place l

-- fewer records have fewer keys
pub keys-fewer : (j : ℕ) (xs : List DeclarationPlace) → length (last_keys (drop j xs)) ≤ length (last_keys xs)
keys-fewer zero xs = omega arith
keys-fewer (suc j) [] = omega arith
keys-fewer (suc j) (x ∷ xs) = omega (arith, keys-fewer j xs, length-append (last_keys xs) (key_if x.owner x.declaration))

-- one turn of a loop from the end: an entry x, which the entries left do not have any more
module _ (declarations : List DeclarationEntry) (n : ℕ) (before after : List DeclarationEntry) (x : DeclarationEntry) (split : before ≡ after ++ x ∷ []) (front : before ≡ take (length before) (take n declarations)) where
  size : length before ≡ length after + 1
  size = ap length split ∙ length-append after (x ∷ [])

  within : length after < n
  within = omega (arith, size, ap length front, length-take (length before) (take n declarations), length-take n declarations)

  pub after-front : after ≡ take (length after) (take n declarations)
  after-front =
      sym (take-append_seam after (x ∷ []))
      ∙ ap (take (length after)) (sym split ∙ front)
      ∙ take-take (length after) (length before) (take n declarations) (omega (arith, size))

  entry-at : x ≡ get_or declarations (length after) no_declaration_entry
  entry-at =
      let l : length after < length before = omega (arith, size) in
      sym (get_or-append_seam after x [] no_declaration_entry)
      ∙ ap (λ es. get_or es (length after) no_declaration_entry) (sym split ∙ front)
      ∙ get_or-take (length before) (take n declarations) (length after) no_declaration_entry l
      ∙ get_or-take n declarations (length after) no_declaration_entry within

  -- the index with the keys of that entry has those behind the entries that are left
  module _ (file : List ℕ) (ks more : List Key) (so_far : (xs : List DeclarationPlace) → Places file declarations n xs → ks ≡ last_keys (drop (length before) xs)) (given : more ≡ key_in x.owner (frame_of (drop x.start file))) (xs : List DeclarationPlace) (told : Places file declarations n xs) where
    abbrev j : ℕ
    j = length after

    behind : ks ≡ last_keys (drop (j + 1) xs)
    behind = so_far xs told ∙ ap (λ n. last_keys (drop n xs)) size

    pub turn-keys : ks ++ more ≡ last_keys (drop j xs)
    turn-keys =
        let l : j < length xs = omega (arith, within, told.count) in
        let own = ap (λ e. key_in e.owner (frame_of (drop e.start file))) entry-at ∙ told.keys j l in
        (λ i. behind i ++ (given ∙ own) i)
        ∙ sym (keys-more xs j l)

    -- and so there is room for them
    pub turn-room : length ks + length more ≤ length (last_keys xs)
    turn-room = omega (arith, ap length turn-keys, length-append ks more, keys-fewer j xs)

keys-append : (xs ys : List DeclarationPlace) → last_keys (xs ++ ys) ≡ last_keys ys ++ last_keys xs
keys-append [] ys = sym (append-nil (last_keys ys))
keys-append (x ∷ xs) ys = ap (λ ks. ks ++ key_if x.owner x.declaration) (keys-append xs ys) ∙ append_assoc (last_keys ys) (last_keys xs) (key_if x.owner x.declaration)

own-keys : (number start p : ℕ) (ps : List Declaration) → last_keys (places_in_package number start p ps) ≡ reverse (map dependency_key (map (owned p) (dependencies_in ps)))
own-keys number start p [] = refl
own-keys number start p (dependency d ∷ ps) =
    ap (λ ks. ks ++ dependency_key (owned p d) ∷ []) (own-keys (number + 1) _ p ps)
    ∙ sym (reverse-append (dependency_key (owned p d) ∷ []) (map dependency_key (map (owned p) (dependencies_in ps))))
own-keys number start p (feature f ∷ ps) = append-nil (last_keys (places_in_package (number + 1) _ p ps)) ∙ own-keys (number + 1) _ p ps

from-keys : (number start p : ℕ) (g : Graph) → last_keys (places_from number start p g) ≡ reverse (map dependency_key (depending p g))
from-keys number start p [] = refl
from-keys number start p (a ∷ g) =
    let mine = map (owned p) (dependencies_in a.declarations) in
    let at = start + length (package_record a) in
    let n = (number + 1) + length a.declarations in
    let on = at + declarations_length a.declarations in
    keys-append (places_in_package (number + 1) at p a.declarations) (places_from n on (p + 1) g)
    ∙ (λ i. from-keys n on (p + 1) g i ++ own-keys (number + 1) at p a.declarations i)
    ∙ sym (reverse-append (map dependency_key mine) (map dependency_key (depending (p + 1) g)))
    ∙ ap reverse (sym (map-append dependency_key mine (depending (p + 1) g)))

-- the keys of all records are those of all dependencies, the last one first
pub placed-keys : (g : Graph) → last_keys (declaration_places g) ≡ reverse (map dependency_key (depending 0 g))
placed-keys g = from-keys 1 _ 0 g

-- the entries of all records, as many as there are
pub all-places : (dir : Directory) (g : Graph) → Tells dir g → (n : ℕ) → n ≡ length (declaration_places g) → Places dir.index.file.now dir.declarations n (declaration_places g)
all-places dir g t n all = record {
  count = all;
  keys = λ j l.
      front-key _ _ _ _ (t.parted j l).0 ∙ ap (λ e. key_if e.owner (get_or (declaration_places g) j no_place).declaration) (t.parted j l).1;
}

-- what is named of a graph is as much as there is
pub keys-count : (g : Graph) → length (last_keys (declaration_places g)) ≡ dependency_count g
keys-count g = ap length (placed-keys g) ∙ length-reverse (map dependency_key (depending 0 g)) ∙ length-map (depending 0 g) dependency_key ∙ depending-length 0 g
