use Rattle.std.proofs.Common.{sym, ◌∙◌}
use Rattle.config_directives.proofs.Keywords.{keyword_first, keyword_second, keyword_third}
use Rattle.config_directives.proofs.keyword.keyword_of.Goals as goal

pub returns-in-Some : goal.returns-in-Some
returns-in-Some c = keyword_first c.args.name.now c.in-Some.keyword (sym c.link_keyword.ensures ∙ c.in-Some.is)

pub returns-in-Some-client_keyword : goal.returns-in-Some-client_keyword
returns-in-Some-client_keyword c =
    keyword_second c.args.name.now c.in-Some-client_keyword.keyword (sym c.link_keyword.ensures ∙ c.in-None.is)
    (sym c.client_keyword.ensures ∙ c.in-Some-client_keyword.is)

pub returns-in-None-client_keyword : goal.returns-in-None-client_keyword
returns-in-None-client_keyword c =
    keyword_third c.args.name.now c.session_keyword.result (sym c.link_keyword.ensures ∙ c.in-None.is)
    (sym c.client_keyword.ensures ∙ c.in-None-client_keyword.is) c.session_keyword.ensures
