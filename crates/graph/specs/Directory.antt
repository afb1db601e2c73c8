-- What a directory tells of the graph of its file.
use Rattle.std.specs.Prelude.{◌≡◌, ℕ, ◌+◌, ◌<◌, false, List, ◌++◌, length, drop, Ok, Err, Result, slice_index, slice_index_or}
use Rattle.records.specs.Graphs.{Declaration, dependency, feature, Graph}
use Rattle.records.specs.Encoding.{declaration_bytes, encode}
use Rattle.records.specs.Frames.{frame_of}
use Rattle.graph.specs.declared.contents.Counts.{Counts}
use Rattle.graph.specs.declared.faults.FileFault.{FileFault}
use Rattle.graph.specs.declared.index.Index.{Index}
use Rattle.graph.specs.declared.tables.PackageEntry.{PackageEntry}
use Rattle.graph.specs.declared.tables.DeclarationEntry.{DeclarationEntry}
use Rattle.graph.specs.declared.tables.Directory.{Directory}
use Rattle.graph.specs.Reading.{first_reading}
use Rattle.graph.specs.Law.{LawfulDeclaration, Says, dependency_count, feature_count}
use Rattle.graph.specs.Depending.{Depending, owned, key_in, key_if, Indexed}
use Rattle.graph.specs.Gathered.{keys_from}
use Rattle.graph.specs.Places.{no_dependency, no_feature, dependencies_of, features_of, package_at, dependencies_before, features_before}
use Rattle.graph.specs.Second.{DeclarationPlace, declaration_places}
use Rattle.graph.specs.Views.{keys}

-- the record of a lawful dependency or feature begins at this place of the file
pub record RecordAt (file : List ℕ) (start : ℕ) (p : Declaration) : Type 0 where
  pub rest : List ℕ
  pub bytes : drop start file ≡ declaration_bytes p ++ rest
  pub lawful : LawfulDeclaration p

-- defaults for what is read from a list
abbrev pub no_package : PackageEntry
no_package = record { proc_mark = false; dependency = 0; feature = 0 }

abbrev pub no_declaration_entry : DeclarationEntry
no_declaration_entry = record { start = 0; owner = 0 }

abbrev pub no_depending : Depending
no_depending = owned 0 no_dependency

abbrev pub no_place : DeclarationPlace
no_place = record { number = 0; start = 0; owner = 0; declaration = dependency no_dependency }

-- the first n entries of the table of all records are those of these records, as far as package and name go
pub record Places (file : List ℕ) (entries : List DeclarationEntry) (n : ℕ) (xs : List DeclarationPlace) : Type 0 where
  pub count : n ≡ length xs
  pub keys : (j : ℕ) → j < length xs → key_in (slice_index_or entries j no_declaration_entry).owner (frame_of (drop (slice_index_or entries j no_declaration_entry).start file)) ≡ key_if (slice_index_or xs j no_place).owner (slice_index_or xs j no_place).declaration

-- the first reading has accepted the graph g of the file, and leaves this index and these counts
pub record Accepted (index : Index) (counts : Counts) (g : Graph) : Type 0 where
  pub says : Says index.file.now g
  pub keyed : keys index ≡ keys_from 0 g
  pub counted : counts ≡ record { read = length (encode g); packages = length g; dependencies = dependency_count g; features = feature_count g }

-- the directory is that of the graph g of its file
pub record Tells (dir : Directory) (g : Graph) : Type 0 where
  pub says : Says dir.index.file.now g
  pub keyed : keys dir.index ≡ keys_from 0 g
  pub counted : dir.counts ≡ record { read = length (encode g); packages = length g; dependencies = dependency_count g; features = feature_count g }
  pub packaged : (p : ℕ) → p < length g → slice_index_or dir.packages p no_package ≡ record { proc_mark = (package_at g p).proc; dependency = dependencies_before g p; feature = features_before g p }
  pub depending : (p k : ℕ) → k < length (dependencies_of g p) → RecordAt dir.index.file.now (slice_index dir.dependencies (dependencies_before g p + k)) (dependency (slice_index_or (dependencies_of g p) k no_dependency))
  pub featuring : (p k : ℕ) → k < length (features_of g p) → RecordAt dir.index.file.now (slice_index dir.features (features_before g p + k)) (feature (slice_index_or (features_of g p) k no_feature))
  pub parted : (j : ℕ) → j < length (declaration_places g) → RecordAt dir.index.file.now (slice_index_or dir.declarations j no_declaration_entry).start (slice_index_or (declaration_places g) j no_place).declaration × (slice_index_or dir.declarations j no_declaration_entry ≡ record { start = (slice_index_or (declaration_places g) j no_place).start; owner = (slice_index_or (declaration_places g) j no_place).owner })

-- what a reading answers, with the directory that it leaves
abbrev pub ReadAs : List ℕ → Result (Unit {0}) FileFault → Directory → Type 0
ReadAs file (Ok u) dir = (dir.index.file.now ≡ file) × ((g : Graph) × (first_reading file ≡ Ok (g, dir.counts.read)) × Tells dir g × Indexed dir.named g)
ReadAs file (Err e) dir = first_reading file ≡ Err e
