use Rattle.std.proofs.Common.{sym, ap}
use Rattle.file_pages.proofs.Steps.{wrote_nothing, wrote_more, wrote_all, wrote_as}
use Rattle.certificate.specs.declared.forms.Version.TheVariants.{Two}
use Rattle.certificate.specs.Spelling.{certificate_text, view}
use Rattle.certificate.proofs.Texts.{flat_views}
use Rattle.certificate.proofs.writing.put_certificates.Goals as goal

pub loop-certificate-init : goal.loop-certificate-init
loop-certificate-init g c = wrote_nothing

pub loop-certificate-preserved : goal.loop-certificate-preserved
loop-certificate-preserved g c =
    let same = ap (λ x. certificate_text Two (view x)) c.certificate-item.is in
    let one = wrote_as same c.put_certificate.ensures in
    wrote_more (λ x. certificate_text Two (view x)) c.args.all.now
    c.loop-certificate.certificate-index
    c.certificate-item.result c.loop-certificate-test.true c.loop-certificate.invariant one

pub returns : goal.returns
returns g c =
    wrote_as (sym (flat_views c.args.all.now))
    (wrote_all (λ x. certificate_text Two (view x)) c.args.all.now
    c.loop-certificate.certificate-index c.loop-certificate-test.false
    c.loop-certificate.invariant)
