-- The limits of a graph file, and the numbers of its words and places.
use Rattle.std.specs.Prelude.{ℕ}

-- the most bytes, packages, dependencies and features
abbrev pub max_bytes : ℕ
max_bytes = 1048576

abbrev pub max_packages : ℕ
max_packages = 4096

abbrev pub max_dependencies : ℕ
max_dependencies = 16384

abbrev pub max_features : ℕ
max_features = 16384

-- the most dependencies and features together; and the most items, which are these and the packages
abbrev pub max_declarations : ℕ
max_declarations = 32768

abbrev pub max_local_items : ℕ
max_local_items = 36864

-- the most rule rows
abbrev pub max_rule_rows : ℕ
max_rule_rows = 262144

-- how many words stand before the rows, and how many a row has
abbrev pub head_words : ℕ
head_words = 4

abbrev pub row_width : ℕ
row_width = 5

-- where in its record the end of a dependency stands, and where the name of a dependency and that of
-- a feature begins
abbrev pub end_place : ℕ
end_place = 6

abbrev pub dependency_name_place : ℕ
dependency_name_place = 12

abbrev pub feature_name_place : ℕ
feature_name_place = 7
