use Rattle.records.specs.Fields.{view}
use Rattle.records.proofs.Lists.{forms-kept}
use Rattle.records.proofs.reader.Reader.forms.Goals as goal

pub returns-clause-value : goal.returns-clause-value
returns-clause-value c = forms-kept c.list.result (view c.args.self.now) (view c.list.new.self) c.list.ensures.value
