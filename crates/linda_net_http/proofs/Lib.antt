mod ResponseLaws
mod HeadLaws
