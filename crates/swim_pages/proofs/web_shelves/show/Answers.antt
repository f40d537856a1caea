use Rattle.std.proofs.Common.{rules}
use Rattle.swim_pages.proofs.web_shelves.show.Goals as goal

pub returns-clause-page : goal.returns-clause-page
returns-clause-page c = λ page. record {
  before = c.args.shown.now.items;
  page = c.args.kept.now;
  last = search rules;
  written = c.text-page.ensures.written;
  of = c.requires.member;
  at = c.requires.number;
  is = search rules;
}
