mod ReportLaws
mod WholeLaws
mod JsonLaws
mod ObjectLaws
