-- How feature strings are spelled.
use Rattle.std.specs.Prelude.{ℕ, List, ◌++◌, codes}
use Rattle.graph_files.specs.declared.values.FeatureString.{FeatureString}
use Rattle.graph_files.specs.declared.values.FeatureString.TheVariants.{Plain, Switch, Strong, Weak}

abbrev pub spelling : FeatureString → List ℕ
spelling (Plain feature) = feature.now
spelling (Switch dependency) = codes "dep:" ++ dependency.now
spelling (Strong dependency feature) = dependency.now ++ codes "/" ++ feature.now
spelling (Weak dependency feature) = dependency.now ++ codes "?/" ++ feature.now
