-- What the code holds, with the bytes in the place of what refers to them.
use Rattle.std.specs.Prelude.{ℕ, ◌<◌, List, Ok, Err, Result}
use Rattle.records.specs.declared.faults.RecordFault.{RecordFault}
use Rattle.records.specs.Frames.{frame}
use Rattle.records.specs.Bodies.{package_view, dependency_view, feature_view}
use Rattle.records.specs.Graphs.{Declaration, dependency, feature}
use Rattle.graph.specs.declared.contents.Content as code
use Rattle.graph.specs.declared.contents.Content.TheVariants as variant
use Rattle.graph.specs.declared.contents.DeclarationRecord as code_declaration
use Rattle.graph.specs.declared.contents.DeclarationRecord.TheVariants as kept
use Rattle.graph.specs.declared.contents.ReadRecord as found
use Rattle.graph.specs.declared.contents.Cursor as cursor
use Rattle.graph.specs.declared.index.Index.{Index}
use Rattle.graph.specs.declared.faults.InRecord.{InRecord}
use Rattle.graph.specs.Keys.{Key}
use Rattle.graph.specs.Buckets.{keys_of}
use Rattle.graph.specs.Limits.{max_features}
use Rattle.graph.specs.Reading.{Content, header, package_head, declaration, end, Cursor, ReadRecord}

abbrev pub content_view : code.Content → Content
content_view variant.Header = header
content_view (variant.Package p) = package_head (package_view p)
content_view (variant.Dependency d) = declaration (dependency (dependency_view d))
content_view (variant.Feature f) = declaration (feature (feature_view f))
content_view variant.End = end

abbrev pub declaration_view : code_declaration.DeclarationRecord → Declaration
declaration_view (kept.Dependency d) = dependency (dependency_view d)
declaration_view (kept.Feature f) = feature (feature_view f)

abbrev pub read_record_view : found.ReadRecord → ReadRecord
read_record_view x = record { content = content_view x.content; frame = frame x.frame }

-- a stand of the code, with the features of the index
abbrev pub cursor_view : cursor.Cursor → List Key → Cursor
cursor_view s ks = record { number = s.number; start = s.start; packages = s.packages; dependencies = s.dependencies; keys = ks }

abbrev pub keys : Index → List Key
keys i = keys_of i.lists.entries i.lists.count

abbrev pub locate : {T : Type 0} → cursor.Cursor → Result T RecordFault → Result T InRecord
locate s (Ok x) = Ok x
locate s (Err e) = Err (record { number = s.number; start = s.start; fault = e })

-- an index that has so many features has room for what a record says
abbrev pub Fits : ℕ → code.Content → Type 0
Fits count variant.Header = Unit {0}
Fits count (variant.Package p) = Unit {0}
Fits count (variant.Dependency d) = Unit {0}
Fits count (variant.Feature f) = count < max_features
Fits count variant.End = Unit {0}
