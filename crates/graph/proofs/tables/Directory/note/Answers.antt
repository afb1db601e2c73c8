use Rattle.std.proofs.Common.{◌≡◌, ◌+◌, length, set, Some, sym, ap, ◌∙◌, subst, ⊎_elim, arith, rules}
use Rattle.records.specs.Frames.{frame}
use Rattle.graph.specs.Filling.{tables_of, Midway}
use Rattle.graph.proofs.Filling.{no-header, PackageTold, DependencyTold, FeatureTold, package-told, dependency-told, feature-told}
use Rattle.records.specs.declared.frames.Kind.TheVariants as kind
use Rattle.records.proofs.KindNumbers.{number-of}
use Rattle.graph.proofs.tables.Directory.note.Goals.{In-Package, In-Dependency, In-Feature}
use Rattle.graph.proofs.tables.Directory.note.Goals as goal

-- what the tables tell at a record of this kind
package-here : (c : In-Package) → PackageTold c.args.self.now.index.file.now (tables_of c.args.self.now) c.args.so_far.read c.args.so_far.packages c.args.so_far.dependencies c.args.so_far.features (frame c.args.frame)
package-here c =
    let k = number-of c.args.frame.kind kind.Package (c.requires.kind ∙ ap (λ k. Some k) c.in-Package.is) in
    package-told c.args.self.now.index.file.now (tables_of c.args.self.now) c.args.so_far.read c.args.so_far.packages c.args.so_far.dependencies c.args.so_far.features (frame c.args.frame) c.requires.here k c.requires.midway

dependency-here : (c : In-Dependency) → DependencyTold c.args.self.now.index.file.now (tables_of c.args.self.now) c.args.so_far.read c.args.so_far.packages c.args.so_far.dependencies c.args.so_far.features (frame c.args.frame)
dependency-here c =
    let k = number-of c.args.frame.kind kind.Dependency (c.requires.kind ∙ ap (λ k. Some k) c.in-Dependency.is) in
    dependency-told c.args.self.now.index.file.now (tables_of c.args.self.now) c.args.so_far.read c.args.so_far.packages c.args.so_far.dependencies c.args.so_far.features (frame c.args.frame) c.requires.here k c.requires.midway

feature-here : (c : In-Feature) → FeatureTold c.args.self.now.index.file.now (tables_of c.args.self.now) c.args.so_far.read c.args.so_far.packages c.args.so_far.dependencies c.args.so_far.features (frame c.args.frame)
feature-here c =
    let k = number-of c.args.frame.kind kind.Feature (c.requires.kind ∙ ap (λ k. Some k) c.in-Feature.is) in
    feature-told c.args.self.now.index.file.now (tables_of c.args.self.now) c.args.so_far.read c.args.so_far.packages c.args.so_far.dependencies c.args.so_far.features (frame c.args.frame) c.requires.here (λ e. omega arith) (λ e. omega arith) (λ e. omega arith) c.requires.midway

pub bounds-self-so_far : goal.bounds-self-so_far
bounds-self-so_far c = (package-here (goal.at.bounds-self-so_far c).In-Package).0

pub bounds-self-so_far-in-Dependency : goal.bounds-self-so_far-in-Dependency
bounds-self-so_far-in-Dependency c = (dependency-here (goal.at.bounds-self-so_far-in-Dependency c).In-Dependency).0

pub bounds-self-j : goal.bounds-self-j
bounds-self-j c = (dependency-here (goal.at.bounds-self-j c).In-Dependency).1

pub bounds-self-so_far-in-Feature : goal.bounds-self-so_far-in-Feature
bounds-self-so_far-in-Feature c = (feature-here (goal.at.bounds-self-so_far-in-Feature c).In-Feature).0

pub bounds-self-j-in-Feature : goal.bounds-self-j-in-Feature
bounds-self-j-in-Feature c = (feature-here (goal.at.bounds-self-j-in-Feature c).In-Feature).1

pub returns-in-Package-clause-midway : goal.returns-in-Package-clause-midway
returns-in-Package-clause-midway c =
    let s = c.args.so_far in
    let d = c.args.self.now in
    let after = (package-here (goal.at.returns-in-Package-clause-midway c).In-Package).1 (search rules) in
    subst (λ m. Midway d.index.file.now (record { packages = set d.packages s.packages (record { proc_mark = m; dependency = s.dependencies; feature = s.features }); dependencies = d.dependencies; features = d.features; declarations = d.declarations }) (s.read + (length c.args.frame.body.now + 6)) (s.packages + 1) s.dependencies s.features) (sym c.is_marked.ensures) after

pub returns-in-Dependency-clause-midway : goal.returns-in-Dependency-clause-midway
returns-in-Dependency-clause-midway c =
    let s = c.args.so_far in
    let d = c.args.self.now in
    let after = (dependency-here (goal.at.returns-in-Dependency-clause-midway c).In-Dependency).2 (search rules) (search rules) in
    subst (λ o. Midway d.index.file.now (record { packages = d.packages; dependencies = set d.dependencies s.dependencies s.read; features = d.features; declarations = set d.declarations (s.dependencies + s.features) (record { start = s.read; owner = o }) }) (s.read + (length c.args.frame.body.now + 6)) s.packages (s.dependencies + 1) s.features) (sym c.saturating_sub.ensures) after

pub returns-in-Feature-clause-midway : goal.returns-in-Feature-clause-midway
returns-in-Feature-clause-midway c =
    let s = c.args.so_far in
    let d = c.args.self.now in
    let after = (feature-here (goal.at.returns-in-Feature-clause-midway c).In-Feature).2 (search rules) (search rules) in
    subst (λ o. Midway d.index.file.now (record { packages = d.packages; dependencies = d.dependencies; features = set d.features s.features s.read; declarations = set d.declarations (s.dependencies + s.features) (record { start = s.read; owner = o }) }) (s.read + (length c.args.frame.body.now + 6)) s.packages s.dependencies (s.features + 1)) (sym c.saturating_sub.ensures) after

pub returns-in-Header-clause-midway : goal.returns-in-Header-clause-midway
returns-in-Header-clause-midway c =
    let s = c.args.so_far in
    let header = ⊎_elim (λ (h : c.args.kind ≡ kind.Header). h) (λ (h : c.args.kind ≡ kind.End). absurd (c.requires.inside h)) c.in-Header.is in
    let k1 = number-of c.args.frame.kind kind.Header (c.requires.kind ∙ ap (λ k. Some k) header) in
    absurd (no-header c.args.self.now.index.file.now (tables_of c.args.self.now) s.read s.packages s.dependencies s.features (frame c.args.frame) c.requires.here c.requires.midway k1)
