-- `end` meets its contract: three words, two of them ids.
use Rattle.definition.specs.Read.{read_flow}
use Rattle.definition.specs.Tree.{return}
use Rattle.reading.specs.Acts.{flow_after}
use Rattle.reading.proofs.Readers.{id_yes}
use Rattle.reading.proofs.end.Goals as goal

pub returns : goal.returns
unfolding read_flow flow_after
returns g c = record {
  is = (
    return c.in_ok-rule.rule c.in_ok-pos.pos c.in_ok-site.site,
    rw (c.in_ok-rule.ensures, c.in_ok-pos.ensures, c.in_ok-site.ensures, id_yes c.in_ok-rule.rule c.if-rule-gt-LAST.false, id_yes c.in_ok-site.site c.if-site-gt-LAST.false),
    c.returned.ensures,
  );
}
